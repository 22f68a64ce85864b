-- The promise for additions and withdrawals without a settling between. Assumes nothing.
use Rattle.std.specs.Prelude.{◌≡◌, List, map, ℕ, ◌≤◌, length}
use Rattle.words.specs.Words.{word_count, whole_of}
use Rattle.register.specs.Entries.{Change, run, allowed_in, zeros}
use Rattle.lanes.specs.Lanes.{most_calls, settled_lanes, settled}
use Rattle.lanes.specs.SettleTable.{SettledTo}
use Rattle.lanes.specs.Runs.{begun, change, lane_run}
use Rattle.lanes.proofs.RunLaws.{changes_only}
use Rattle.lanes.proofs.Promise.{promise}

module _ (out : List ℕ) (l : length out ≡ word_count) where
  -- without a settling between
  pub list_promise : (cs : List Change) → allowed_in cs ≤ most_calls
      → let r = lane_run (begun out) (map change cs) in
      SettledTo (settled r.lanes r.calls r.words) (settled_lanes (whole_of (run zeros cs))) (run zeros cs)
  list_promise cs h = rw (changes_only cs) at (promise out l (map change cs) (rw (changes_only cs) h))

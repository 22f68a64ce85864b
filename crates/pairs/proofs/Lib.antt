-- The crate's theorems and lemmas.
pub mod FaultLaws
pub mod Instances
pub mod JudgedLaws
pub mod ListLaws
pub mod PairLaws
pub mod ProductLaws
pub mod Promised
pub mod Reordered
pub mod TableLaws
pub mod TotalLaws
pub mod WriteLaws
pub mod ZipLaws
pub mod PairedSame
pub mod Results

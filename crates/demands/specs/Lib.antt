-- The scope's demands (rules D1 to D3), as theorems about the definitions that the public contracts cite.
pub mod SoundState
pub mod Tables

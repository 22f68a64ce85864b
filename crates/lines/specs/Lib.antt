-- What the sheet program prints.
pub mod Lines
pub mod Told
pub mod Instances

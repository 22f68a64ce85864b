-- What can be saved of a damaged sheet.
pub mod Rescued
pub mod Rescue
pub mod RescueLaws

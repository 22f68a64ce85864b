-- The contribution sheet.
pub mod Sheet
pub mod Written
pub mod Write
pub mod Table
pub mod SheetLaws
pub mod Instances

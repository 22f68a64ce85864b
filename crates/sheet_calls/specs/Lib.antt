-- A sheet, for C.
pub mod SheetArrays
pub mod RescueArrays

-- One area of the faithful walk: its high parts, its remainders, its sum and its largest magnitude.
pub mod Extract
pub mod ExtractLaws
pub mod Grouped
pub mod GroupedLaws
pub mod LargestLaws
pub mod LargestWithLaws

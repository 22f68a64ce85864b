-- What all C calls on the caller's own arrays share.
pub mod Arrays
pub mod Inner
pub mod Codes
pub mod CodesLaws

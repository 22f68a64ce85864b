-- What the proof of one function cites.
pub mod TwoDigits
pub mod RegisterWords
pub mod SidesLaws

-- Sound states, and the gate of a block step.
pub mod Sound
pub mod Numbers
pub mod Places
pub mod SigmaLaws
pub mod LimitLaws
pub mod PlacesLaws
pub mod AdmittedLaws

-- What proofs by hand share; no proof here is by hand now.
pub mod Again
pub mod Locals

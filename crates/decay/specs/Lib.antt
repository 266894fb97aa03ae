pub mod Fraction
pub mod Exact
pub mod Integral
pub mod Fixed
pub mod held
pub mod Series

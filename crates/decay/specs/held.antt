-- What the program holds on the way. Nothing here has to be believed: laws tie it to the definitions above this folder.
pub mod Factors
pub mod Mean
pub mod Stepped
pub mod Promise
pub mod Step
pub mod Digits

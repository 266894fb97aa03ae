-- Laws of a reach along its way, and of where its oxygen is nowhere below zero.
pub mod Along
pub mod NeverBelow

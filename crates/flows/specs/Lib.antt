pub mod Rates
pub mod Flow
pub mod Saturation
pub mod Head
pub mod Accept
pub mod held

pub mod Text
pub mod MeanText
pub mod held

-- Laws of words, numbers and lines put into a text.
pub mod Decimal
pub mod Signs
pub mod Words
pub mod Puts
pub mod Lines

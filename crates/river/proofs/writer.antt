-- Laws of the writer that is lent the cards.
pub mod Lent

-- Laws of the factors of an instant.
pub mod Instants

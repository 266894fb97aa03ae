-- Laws of the weighing of the means.
pub mod Weighing

-- Sums, averages and means of the factors.
pub mod Totals
pub mod Averages

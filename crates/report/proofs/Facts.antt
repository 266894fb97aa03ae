-- The program and the exact recurrence as inequalities and equations of fractions.
pub mod Floor
pub mod Head
pub mod Instant
pub mod Exact
pub mod Formula
pub mod Bed

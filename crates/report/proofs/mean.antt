-- The mean of a reach by one walk, the rows of means, what a reach hands on with its mean, and the tables of the means.
pub mod BySums
pub mod Rows
pub mod Reach
pub mod Tables

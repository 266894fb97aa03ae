-- Laws of a step's series, and rows of them.
pub mod SeriesRows
pub mod Shares
pub mod MeanShares

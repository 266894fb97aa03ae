-- Laws of the lines of a report.
pub mod Lines
pub mod Bringing
pub mod Used
pub mod Reaches

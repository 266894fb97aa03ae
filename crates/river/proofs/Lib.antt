-- What serves all of the crate, and its theorems. The laws of a module of src/ stand in the room of its name beside this file.
pub mod Orders
pub mod Answers
pub mod Tests
pub mod Walks
pub mod Files
pub mod RoundTrip
pub mod Bench

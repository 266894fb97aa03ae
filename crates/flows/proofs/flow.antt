-- Laws of flows and of the flow check.
pub mod Table
pub mod Take
pub mod Checks
pub mod Count
pub mod Groups
pub mod FlowCheck

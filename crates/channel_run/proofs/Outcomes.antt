-- Each step, outcome by outcome: an update of a view is what the step leaves.
pub mod Tellings
pub mod Messages
pub mod Handles
pub mod Operations
pub mod Polls

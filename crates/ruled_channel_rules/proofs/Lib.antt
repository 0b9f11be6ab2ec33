pub mod Merging
pub mod Keeps
pub mod Settled
pub mod Stages
pub mod Forced
pub mod GivenUp
pub mod Received
pub mod Lists

pub mod Keys
pub mod Waiting
pub mod Calls
pub mod Opens
pub mod Entries
pub mod Chain

pub mod Views
pub mod Many
pub mod Answered
pub mod Steps
mod Told
mod InMutex
mod Taken
pub mod Same
pub mod Dropped
pub mod Logging
mod Made
mod Waits

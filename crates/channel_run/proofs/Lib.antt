-- The lemmas of runs by topic, each topic on those above it. A folder in small letters is a source module's.
pub mod Alike
pub mod Steps
pub mod Outcomes
pub mod Waiting
pub mod Tables
pub mod Told
pub mod Polls
pub mod Settling

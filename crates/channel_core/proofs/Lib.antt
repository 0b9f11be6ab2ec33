pub mod Rings
mod Forced
mod Replaced
mod Turns

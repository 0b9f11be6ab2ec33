pub mod InPlace
pub mod Keeps
pub mod Same

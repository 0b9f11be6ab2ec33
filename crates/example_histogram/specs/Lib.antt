pub mod Classes
pub mod Rule

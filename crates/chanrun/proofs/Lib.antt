pub mod Numbers
pub mod Lines
pub mod Words
pub mod Known
pub mod SettlingPolls
pub mod LinesDone
pub mod LegalScripts
pub mod Traced

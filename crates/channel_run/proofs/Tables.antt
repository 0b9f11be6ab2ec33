-- What a run keeps, its core and its tables, and what each step makes of them.
pub mod Entries
pub mod Kept
pub mod OneEntry
pub mod OneTicket
pub mod ShownNames
pub mod ShownOperations
pub mod Borrowing
pub mod Fits
pub mod PlainSteps
pub mod MadeNames
pub mod GivenUp
pub mod NewRun
pub mod Batches

mod RowsReplies
mod Examples
mod Script
mod ScriptLemmas
mod RowsMemory
mod RowsSends
mod RowsNotices
mod RowsSettling
mod RowsNames
mod RowsOriginal
pub mod ReplyForms
pub mod Conserved
pub mod NameLists
pub mod RosterLemmas
pub mod Measure
pub mod HeldMessages
pub mod Keeping
pub mod Halfway
pub mod HalfwayRosters
pub mod HalfwaySteps
pub mod CoveredPasts
pub mod Unchanged
pub mod Settled
pub mod LookUps
pub mod AllowedSteps
pub mod WhoWaits
pub mod MeasureFalls
pub mod AnyOrder
pub mod ClosedStays
pub mod Upgrades
pub mod LegalAnswers
pub mod Settling

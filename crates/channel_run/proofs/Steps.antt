-- From what a run does, by its own view, to what a past decides.
pub mod LongerPasts
pub mod Answered
pub mod Refused
pub mod Wanting
pub mod StepLists
pub mod Decided

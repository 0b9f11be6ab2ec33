pub mod Back
pub mod Faults
pub mod Filling
pub mod InOrder

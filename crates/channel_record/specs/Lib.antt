pub use Rattle.channel_model.specs.Capacity
pub use Rattle.channel_core.specs.Stamps
pub mod Histories
pub mod CallSteps
pub mod Shares
pub mod Claims

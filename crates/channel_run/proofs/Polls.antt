-- Polls of operations and streams: what each makes of the core, of one entry and of one ticket.
pub mod Outcome
pub mod OneOperation
pub mod Sends
pub mod Receives
pub mod Closeds
pub mod Streams

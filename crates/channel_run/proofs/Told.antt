-- Who waits in a run, and who was told, by the tickets that it keeps.
pub mod FirstTold
pub mod TicketNotices
pub mod WhoWaits

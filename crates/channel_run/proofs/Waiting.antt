-- Who waits: lists of keys, rosters of names, and the tickets that join them.
pub mod AbsentNames
pub mod KeyedRosters
pub mod KeyLists
pub mod HeldLists
pub mod ChangedTickets

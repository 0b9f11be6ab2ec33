-- Views that show the same: names and operations in any order.
pub mod LiveNames
pub mod SameNames
pub mod SameOperations
pub mod ChangedLists
pub mod SameViews
pub mod SameTables
pub mod SameNotices

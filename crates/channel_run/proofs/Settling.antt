-- Settling: polls of those who were told, until nobody is.
pub mod ToldPolls
pub mod PastOfPolls
pub mod SoFar
pub mod FewerWait

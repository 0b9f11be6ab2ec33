mod Kept
mod Lists
mod Claims
mod Written

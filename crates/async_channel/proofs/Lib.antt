mod Rounds
mod Left

pub mod InTurn
pub mod Twices

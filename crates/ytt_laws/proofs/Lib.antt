pub mod Chains
pub mod InTurn
pub mod Keys
pub mod Lists
pub mod Yielded

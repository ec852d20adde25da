pub mod Dicts
pub mod Held
pub mod Making
pub mod Pairs
pub mod Spread
pub mod Views

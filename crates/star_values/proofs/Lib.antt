pub mod Acts
pub mod Growing
pub mod KeysOnce
pub mod Lending
pub mod Names
pub mod Slots

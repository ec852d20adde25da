pub mod Cut
pub mod Digits
pub mod Quoted
pub mod Spelled

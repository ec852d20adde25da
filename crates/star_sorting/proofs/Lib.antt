pub mod Choosing
pub mod Laws
pub mod Places
pub mod Stable

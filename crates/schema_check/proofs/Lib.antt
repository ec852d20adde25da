pub mod ByPlace
pub mod Filled
pub mod First
pub mod Missing
pub mod Places
pub mod Views

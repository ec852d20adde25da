pub mod Filled
pub mod First
pub mod Places
pub mod Told
pub mod View
pub mod Wants

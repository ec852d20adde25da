pub mod Lists
pub mod Rising
pub mod Turning

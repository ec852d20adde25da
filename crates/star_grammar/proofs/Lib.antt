pub mod Checked
pub mod Ending
pub mod Fills
pub mod Numbers
pub mod Places

pub mod Gave
pub mod Looking
pub mod Programs
pub mod Replying
pub mod Running
pub mod Seen
pub mod Statements
pub mod Turns

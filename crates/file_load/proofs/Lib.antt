mod Answered
mod Finding
mod Forming
mod Growing
mod Left
pub mod Modules
mod Putting
mod Replying
mod Turning

pub mod Answers
pub mod Endings
pub mod Found
pub mod Headline
pub mod Seen
pub mod Status
pub mod Written

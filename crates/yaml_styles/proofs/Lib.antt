pub mod QuotedChars
pub mod StyleTests

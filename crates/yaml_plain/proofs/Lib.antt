pub mod FurtherLines
pub mod Spans

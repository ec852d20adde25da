pub mod View
pub mod Walks

pub mod Kinds
pub mod View

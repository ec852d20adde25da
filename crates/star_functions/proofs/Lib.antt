pub mod Files
pub mod Finding
pub mod Indexing
pub mod Looking
pub mod Naming
pub mod Walking

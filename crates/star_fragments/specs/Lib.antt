pub mod Fragments
pub mod Fresh
pub mod Nodes

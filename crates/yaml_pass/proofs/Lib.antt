pub mod Contents
pub mod Depth
pub mod Pass
pub mod Stack

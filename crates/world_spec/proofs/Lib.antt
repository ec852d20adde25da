pub mod CodeBlocks
pub mod Held
pub mod Together

pub mod DashHeads
pub mod KeyTexts
pub mod Openings

pub mod BlockIndents
pub mod BlockTexts
pub mod BlocksRead

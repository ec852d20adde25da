pub mod BlockLines
pub mod BlockView

pub mod Alike
pub mod ByLevel
pub mod ByLine
pub mod Raws
pub mod RowsHeard
pub mod Started
pub mod Taking

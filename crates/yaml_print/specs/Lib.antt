pub mod Indent
pub mod LineText
pub mod Printer
pub mod Puts
pub mod Start

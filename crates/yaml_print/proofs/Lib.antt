pub mod Chars
pub mod Collections
pub mod Documents
pub mod Indents
pub mod Literals
pub mod Pieces
pub mod Printers
pub mod Putting

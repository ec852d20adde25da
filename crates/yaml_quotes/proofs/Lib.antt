pub mod Escaping
pub mod Foldings
pub mod Pieces
pub mod QuotedLines

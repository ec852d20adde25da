pub mod TextPieces
pub mod TextTemplates

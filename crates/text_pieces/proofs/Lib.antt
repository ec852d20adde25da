pub mod BoundsLeft
pub mod Finding
pub mod FirstCharacter
pub mod Fronts
pub mod Joining
pub mod NextPieces

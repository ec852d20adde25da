pub mod Asked
pub mod Changes
pub mod Listing
pub mod Pairing
pub mod Reading
pub mod Turns
pub mod View

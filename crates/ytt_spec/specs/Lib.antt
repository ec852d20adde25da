pub mod Due
pub mod Meaning
pub mod Requests
pub mod Words

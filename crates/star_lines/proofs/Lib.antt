pub mod Going
pub mod Marks
pub mod Numbers
pub mod Stays
pub mod Telling
pub mod Texts

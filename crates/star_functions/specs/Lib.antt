pub mod Known
pub mod Numbered
pub mod Table
pub mod View

pub mod Made
pub mod Names
pub mod Shapes
pub mod Stands

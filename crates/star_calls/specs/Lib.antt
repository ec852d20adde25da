pub mod Arguments
pub mod Left
pub mod Named
pub mod Scope
pub mod View

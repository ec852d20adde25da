pub mod Arguments
pub mod Clauses
pub mod Laws
pub mod Offences
pub mod Paths
pub mod Reading
pub mod Schemas
pub mod Sound

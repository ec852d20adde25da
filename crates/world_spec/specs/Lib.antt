pub mod Held
pub mod Laws
pub mod Parts
pub mod Paths
pub mod StarFiles
pub mod Units
pub mod Worlds

pub mod Computations
pub mod Keys

pub mod AtEnds
pub mod Bytes
pub mod Cuts
pub mod LineSteps
pub mod Passed
pub mod Stripping
pub mod WordSteps

pub mod FaultText
pub mod Outcomes
pub mod Places
pub mod Trees
pub mod View

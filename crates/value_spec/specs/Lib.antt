pub mod Binding
pub mod Built
pub mod Keys
pub mod Members
pub mod Numbers
pub mod Outcomes
pub mod Store
pub mod Values

pub mod Fronts
pub mod OperatorExamples

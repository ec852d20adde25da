pub mod IndexExamples

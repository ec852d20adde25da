pub mod TextExamples
pub mod TextsKeep
pub mod TextsKeepNodes
pub mod TextsKeepWords

pub mod ByteTests
pub mod FormTests
pub mod Integers
pub mod PlainValues

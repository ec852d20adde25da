pub mod Ends
pub mod Sets
pub mod Strips
pub mod Tests

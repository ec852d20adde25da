pub mod Arguments
pub mod Examples
pub mod Items
pub mod Made
pub mod Owned
pub mod Turning

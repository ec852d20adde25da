pub mod Forms
pub mod FromEnd

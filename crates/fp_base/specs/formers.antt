pub mod boxed
pub mod row

pub mod Bindings
pub mod Operators

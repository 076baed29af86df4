pub mod Gathers
pub mod Emitted
pub mod Laws
pub mod Generations
pub mod Slots
pub mod Examples

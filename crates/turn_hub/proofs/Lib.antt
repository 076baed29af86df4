pub mod Slots
pub mod Keeps
pub mod Hands
pub mod Opens
pub mod Swaps
pub mod Closes
pub mod WorkLemmas

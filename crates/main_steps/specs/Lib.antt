-- The definitions that the contracts cite, in reading order.
pub mod Hands
pub mod Changes
pub mod Writing
pub mod Steps
pub mod Laws

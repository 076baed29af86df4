-- The definitions that the contracts cite.
pub mod Hands
pub mod Bells

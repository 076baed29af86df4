-- The definitions that the contracts cite, in reading order.
pub mod Windows
pub mod Arranging
pub mod Laws

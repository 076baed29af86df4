-- The definitions that the contracts cite, in reading order.
pub mod Opening
pub mod Chunks
pub mod Routing
pub mod LoopEnds
pub mod Following
pub mod Laws

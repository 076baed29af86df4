-- The definitions that the contracts cite, in reading order.
pub mod Causes
pub mod Files
pub mod Inputs
pub mod Sink
pub mod Buffered
pub mod Memory
pub mod Views

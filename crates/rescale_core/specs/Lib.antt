-- The definitions that the contracts cite, in reading order.
pub mod Chances
pub mod Slots
pub mod Handing
pub mod Worlds
pub mod Soundly
pub mod Queues
pub mod Routing
pub mod Waiting
pub mod Moving
pub mod Laws
pub mod Cells
pub mod Ends
pub mod Examples

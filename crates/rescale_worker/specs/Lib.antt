-- The definitions that the contracts cite, in reading order.
pub mod Workers
pub mod Monitors
pub mod Lines
pub mod Phases
pub mod States
pub mod Seeds
pub mod Settlings
pub mod Working
pub mod Works

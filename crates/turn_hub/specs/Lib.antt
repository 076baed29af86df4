-- The definitions that the contracts cite, in reading order.
pub mod Words
pub mod Work
pub mod Laws
pub mod Rule
pub mod Steps
pub mod Ends
pub mod Answers
pub mod Turns

-- The definitions that the contracts cite, in reading order.
pub mod Texts
pub mod Policies
pub mod Effects
pub mod Endings
pub mod Verdicts
pub mod Courses
pub mod Chunks
pub mod Alone
pub mod FollowingAlone
pub mod Laws

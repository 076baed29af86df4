pub mod LoopLemmas
pub mod RoutedPoints
pub mod RoutedNext
pub mod RoutingLemmas
pub mod FollowLemmas
pub mod Sent

-- The definitions that the contracts cite, in reading order.
pub mod Limits
pub mod Words
pub mod WordsLaw
pub mod LimitsLaw
pub mod CommandViews

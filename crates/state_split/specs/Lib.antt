pub mod Sieves
pub mod Shares
pub mod Fits
pub mod Splits
pub mod Examples

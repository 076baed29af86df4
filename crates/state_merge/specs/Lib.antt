pub mod Pairs
pub mod Fits
pub mod Fitting
pub mod MergingView
pub mod Finishing

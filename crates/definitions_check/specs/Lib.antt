pub mod Words
pub mod Values
pub mod Operators
pub mod Spelling
pub mod Answers

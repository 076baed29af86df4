pub mod WordsLemmas
pub mod DemoWords
pub mod ThreadWords

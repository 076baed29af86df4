pub mod ScriptLemmas
pub mod SettingLemmas
pub mod StepLemmas

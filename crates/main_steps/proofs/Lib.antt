pub mod WritingLemmas
pub mod EntryLemmas
pub mod ChangeLemmas
pub mod WaitLemmas
pub mod StepLemmas
pub mod PlanLaws

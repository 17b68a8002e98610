pub mod EntryExamples
pub mod EntryLaws
pub mod ListedLaws

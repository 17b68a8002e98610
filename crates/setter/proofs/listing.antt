pub mod CutLaws
pub mod FilmExamples
pub mod FilmLaws
pub mod PrintExamples
pub mod PrintLaws
pub mod ProgramExamples
pub mod ProgramLaws
pub mod RecordLineLaws

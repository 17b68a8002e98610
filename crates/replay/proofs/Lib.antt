pub mod FileLaws
pub mod FilmLaws
pub mod ListLaws
pub mod LongLaws
pub mod TextLaws
pub mod WordLaws

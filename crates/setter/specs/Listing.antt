pub mod Film
pub mod FilmAnswer
pub mod Print
pub mod PrintInWords
pub mod Program
pub mod Records

-- The answer for a film, by number and value: why it is refused, or how many records it has.
use Rattle.std.specs.Prelude.{ℕ, Result, Ok, Err}
use Rattle.leaves.specs.Refusal.Verdict.{Answer, answer}
use Rattle.setter.specs.declared.listing.film_answer.FilmError.{FilmError}
use Rattle.setter.specs.declared.listing.film_answer.FilmError.TheVariants.{BadColumn, BigFilm}

-- document 01's numbers of "bad column" and "big film"
abbrev pub bad_column : ℕ
bad_column = 13

abbrev pub big_film : ℕ
big_film = 14

-- "number and record (.. 0 for .. 11 and above)"; 0 and the number of records where the film is ready
abbrev pub film_answer : Result ℕ FilmError → Answer
film_answer (Err BadColumn) = answer bad_column 0
film_answer (Err BigFilm) = answer big_film 0
film_answer (Ok records) = answer 0 records

-- A film: what the program reads, a sheet and its text.
-- Document 01: "The program reads a sheet on standard input: counts of records and text bytes; a line a record; the
-- text."
use Rattle.std.specs.Prelude.{ℕ, ◌+◌, ◌*◌, ◌≡◌, Bool, true, false, not, ◌&&◌, ◌||◌}
use Rattle.std.specs.Prelude.{if◌then◌else◌}
use Rattle.std.specs.Prelude.{List, ◌++◌, eqb, ltb, length, get_or, drop, Result, Ok, Err}
use Rattle.leaves.specs.Sheet.Records.{record_words}
use Rattle.leaves.specs.Text.Columns.{line_bytes, is_line, numbers}
unfoldable pub use Rattle.setter.specs.Listing.Records.{are_records, sheet_of}
pub use Rattle.setter.specs.Listing.Records.{most_film_records}
use Rattle.setter.specs.declared.listing.film_answer.FilmError.{FilmError}
use Rattle.leaves.specs.Refusal.Verdict.{Answer, answer}
use Rattle.setter.specs.Listing.FilmAnswer.{bad_column, big_film, film_answer}

-- ---- the first line: "counts of records and text bytes"

abbrev pub count_fields : ℕ
count_fields = 2

abbrev pub record_count : List ℕ → ℕ
record_count s = get_or (numbers count_fields s) 0 0

abbrev pub byte_count : List ℕ → ℕ
byte_count s = get_or (numbers count_fields s) 1 0

-- what stands behind the first line
abbrev pub behind_counts : List ℕ → List ℕ
behind_counts s = drop (line_bytes count_fields) s

-- the words of a film's sheet
unfoldable pub film_sheet : List ℕ → List ℕ
film_sheet s = sheet_of (record_count s) (behind_counts s)

-- ---- the text: all that stands behind n records
unfoldable pub text_behind : ℕ → List ℕ → List ℕ
text_behind n s = drop (line_bytes count_fields + n * line_bytes record_words) s

-- the text of a film
abbrev pub film_text : List ℕ → List ℕ
film_text s = text_behind (record_count s) s

-- ---- the tests. "The program tests its first line (13, then 14), then each line, before the call".

-- 14, big film: "over 512 records or 16,384 text bytes" (`most_film_records` is 512)
abbrev pub most_film_bytes : ℕ
most_film_bytes = 16384

-- how many bytes the largest well-formed film has
abbrev pub most_input : ℕ
most_input = line_bytes count_fields + most_film_records * line_bytes record_words + most_film_bytes

abbrev pub is_big : List ℕ → Bool
is_big s = ltb most_film_records (record_count s) || ltb most_film_bytes (byte_count s)

-- 13, bad column: "malformed line, or text too short or long"; 0 and the number of records where the film is ready
unfoldable pub film_of : List ℕ → Answer
film_of s =
    if not (is_line count_fields s)
    then answer bad_column 0
    else if is_big s
    then answer big_film 0
    else if not (are_records (record_count s) (behind_counts s))
    then answer bad_column 0
    else if not (eqb (length (film_text s)) (byte_count s))
    then answer bad_column 0
    else answer 0 (record_count s)

-- what reading the first line gives: its two counts, where the line is well-formed and not too big; or why the film is
-- refused
abbrev pub ReadsCounts : List ℕ → Result (ℕ × ℕ) FilmError → Type 0
ReadsCounts s (Ok counts) =
    (is_line count_fields s ≡ true) × (is_big s ≡ false) × (counts ≡ (record_count s, byte_count s))
ReadsCounts s (Err error) =
    ((is_line count_fields s && not (is_big s)) ≡ false) × (film_answer (Err error) ≡ film_of s)

-- ---- the words that the sheet is read into. Where the counts are good, the records' words stand at the front, and
-- behind them the old words stay; else all stay.
unfoldable pub filled_sheet : List ℕ → List ℕ → List ℕ
filled_sheet s old =
    if is_line count_fields s && not (is_big s)
    then film_sheet s ++ drop (record_count s * record_words) old
    else old

-- what reading a film hands back: its answer, and the words of the sheet
pub record Reads (s old new : List ℕ) (film : Result ℕ FilmError) : Type 0 where
  pub answer : film_answer film ≡ film_of s
  pub words : new ≡ filled_sheet s old

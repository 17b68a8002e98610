-- The program: from the bytes that it reads to the bytes that it prints.
-- Document 01: "The program reads a sheet on standard input .. It prints a line an entry, then diagnostics, stop (0 at
-- the end), record; a refusal prints number and record only."
use Rattle.std.specs.Prelude.{ℕ, ◌≡◌, List, [], eqb, replicate, if◌then◌else◌}
use Rattle.leaves.specs.Sheet.Records.{records_of}
use Rattle.leaves.specs.Refusal.Verdict.{Answer, answer}
use Rattle.blocks.specs.Walk.{validate_document}
use Rattle.blocks.specs.Check.{check_outcome}
use Rattle.setter.specs.Machine.{run_answer}
use Rattle.setter.specs.Listing.Film.{film_sheet, film_text, film_of}
use Rattle.setter.specs.Listing.Print.{report_words, refusal_line, list_lines, Prints}

-- the check's answer for a sheet and its text: "its report has 4,096 words"
abbrev pub checked_with : List ℕ → List ℕ → Answer
checked_with w bytes = (check_outcome w bytes (replicate report_words 0)).0

-- what is printed for a sheet and its text: the whole list, with the machine's stop and record; or the check's refusal
-- (1 to 11)
unfoldable pub sheet_lines : List ℕ → List ℕ → List ℕ
sheet_lines w bytes =
    if eqb (checked_with w bytes).number 0
    then list_lines (validate_document w bytes) (run_answer w bytes).number (run_answer w bytes).value
    else refusal_line (checked_with w bytes).number (checked_with w bytes).value

-- what the program prints for what it reads: refusals 13 and 14 come "before the call", with record "0 for .. 11 and
-- above"
unfoldable pub listing : List ℕ → List ℕ
listing s =
    if eqb (film_of s).number 0 then sheet_lines (film_sheet s) (film_text s) else refusal_line (film_of s).number 0

-- n bytes are printed for what is read, and what a reader of the page relies on
pub record Page (s old new : List ℕ) (n : ℕ) : Type 0 where
  pub prints : Prints old (listing s) new n
  -- where the printed list is empty (the film is ready, and the check accepts it with no entry), the printed stop is 0
  -- and the printed record is the number of records
  pub empty :
      (film_of s).number ≡ 0
      → checked_with (film_sheet s) (film_text s) ≡ answer 0 0
      → listing s ≡ list_lines [] 0 (records_of (film_sheet s))

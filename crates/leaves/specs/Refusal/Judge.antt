-- Which sheets are refused, with which number and record. Document 01, 'The call': "Order: 1, 2, 3; then 4 to 9 record
-- by record; then 10 over all records, giving the first such container".
use Rattle.std.specs.Prelude.{ℕ, zero, suc, ◌%◌, ◌≡◌, not, List, eqb, ltb, length, Err, Ok}
use Rattle.std.specs.Prelude.{if◌then◌else◌}
use Rattle.leaves.specs.Sheet.Records.{record_words, records_of, record_at}
use Rattle.leaves.specs.Refusal.Places.{open_at}
use Rattle.leaves.specs.Refusal.Verdict.{Answer, Judged, judged_answer, or_else}
use Rattle.leaves.specs.Refusal.Limits.{most_records, most_bytes}
use Rattle.leaves.specs.Refusal.Record.{level_before, judge}
use Rattle.leaves.specs.Refusal.Tags.{tags_from}
use Rattle.leaves.specs.declared.refusal.verdict.Malformed.TheVariants.{OddSheet, LongSheet, LongText}

-- the tests 4 to 9 of record i, where it stands
unfoldable pub judge_at : List ℕ → List ℕ → ℕ → Judged
judge_at w bytes i = judge bytes i (record_at w i) (level_before w i) (open_at w (record_at w i).level i)

-- of k records from record i on, the first that is refused by 4 to 9
unfoldable pub judge_from : List ℕ → List ℕ → ℕ → ℕ → Judged
judge_from w bytes zero i = Ok tt
judge_from w bytes (suc k) i = let later = judge_from w bytes k (suc i) in or_else (judge_at w bytes i) later

-- The answer for a sheet and its text.
unfoldable pub judge_sheet : List ℕ → List ℕ → Judged
judge_sheet w bytes =
    if not (eqb (length w % record_words) 0)
    then Err OddSheet
    else if ltb most_records (records_of w)
    then Err LongSheet
    else if ltb most_bytes (length bytes)
    then Err LongText
    else or_else (judge_from w bytes (records_of w) 0) (tags_from w (records_of w) (records_of w) 0)

-- The same by document 01's number and record; both are 0 where the sheet is accepted.
abbrev pub sheet_answer : List ℕ → List ℕ → Answer
sheet_answer w bytes = judged_answer (judge_sheet w bytes)

-- What an answer for a sheet and its text has to be: by number and record, and as a value.
pub record Judges (w bytes : List ℕ) (j : Judged) : Type 0 where
  pub answer : judged_answer j ≡ sheet_answer w bytes
  pub enum : j ≡ judge_sheet w bytes

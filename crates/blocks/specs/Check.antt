-- The answer of the check, and the report that it leaves.
use Rattle.std.specs.Prelude.{ℕ, not, List, ◌++◌, ltb, length, drop, is_ok, if◌then◌else◌}
use Rattle.leaves.specs.Report.Entries.{flat}
use Rattle.leaves.specs.Refusal.Verdict.{Answer, answer}
use Rattle.leaves.specs.Refusal.Judge.{judge_sheet, sheet_answer}
pub use Rattle.blocks.specs.Answer.{short_report, checked_answer}
use Rattle.blocks.specs.Walk.{validate_document}

-- The answer for a sheet, its text and a report, by number and value, and the report after it.
-- "Order: 1, 2, 3; then 4 to 9 record by record; then 10 ..; then 11": 11 where the "list needs more words" than
-- the report has. "A refusal .. changes no lent word. Otherwise words past the list stay."
-- "An accepted check answers 0 and the number of entries."
unfoldable pub check_outcome : List ℕ → List ℕ → List ℕ → Answer × List ℕ
check_outcome w bytes report =
    let es = validate_document w bytes in
    if not (is_ok (judge_sheet w bytes))
    then (sheet_answer w bytes, report)
    else if ltb (length report) (length (flat es))
    then (answer short_report 0, report)
    else (answer 0 (length es), flat es ++ drop (length (flat es)) report)

-- The answer of the setting machine, and the marks that it leaves.
use Rattle.std.specs.Prelude.{ℕ, not, List, ltb, length, is_ok, if◌then◌else◌}
use Rattle.leaves.specs.Sheet.Records.{records_of}
use Rattle.leaves.specs.Refusal.Verdict.{Answer, answer}
use Rattle.leaves.specs.Refusal.Judge.{judge_sheet, sheet_answer}
use Rattle.setter.specs.Machine.{run, run_answer}
use Rattle.setter.specs.Marks.{marks_of}
use Rattle.setter.specs.Answer.{short_marks, refused_as}

-- the answer and the marks of the run: "its answer and marks are those of that run"
unfoldable pub after_run : List ℕ → List ℕ → List ℕ → Answer × List ℕ
after_run w bytes marks = (run_answer w bytes, marks_of (run w bytes).steps marks)

-- The answer for a sheet, its text and the marks, and the marks after it. "Order: 1, 2, 3; then 4 to 9 record by
-- record; then 10 ..; then .. 12 for the setter": "fewer marks than records". "A refusal .. changes no lent word."
unfoldable pub set_outcome : List ℕ → List ℕ → List ℕ → Answer × List ℕ
set_outcome w bytes marks =
    if not (is_ok (judge_sheet w bytes))
    then (refused_as (sheet_answer w bytes), marks)
    else if ltb (length marks) (records_of w)
    then (refused_as (answer short_marks 0), marks)
    else after_run w bytes marks

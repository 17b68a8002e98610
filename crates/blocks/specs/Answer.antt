-- The number of the check's answer, and its record or count.
use Rattle.std.specs.Prelude.{ℕ, Result, Ok, Err}
use Rattle.leaves.specs.Refusal.Verdict.{Answer, answer, refusal_answer}
use Rattle.blocks.specs.declared.answer.CheckError.{CheckError}
use Rattle.blocks.specs.declared.answer.CheckError.TheVariants.{Malformed, ShortReport}

-- the number of "short report"
abbrev pub short_report : ℕ
short_report = 11

-- Document 01's number and value of each refusal: "A refusal returns number and record (from 0; 0 for 1–3 and for 11
-- and above)".
abbrev pub check_error_answer : CheckError → Answer
check_error_answer (Malformed malformed) = refusal_answer malformed
check_error_answer ShortReport = answer short_report 0

-- the answer of the check: how many entries were listed, or why nothing was
abbrev pub Checked : Type 0
Checked = Result ℕ CheckError

-- Its number and value. "An accepted check answers 0 and the number of entries".
abbrev pub checked_answer : Checked → Answer
checked_answer (Ok entries) = answer 0 entries
checked_answer (Err error) = check_error_answer error

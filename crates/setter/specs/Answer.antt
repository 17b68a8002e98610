-- The answer of the setting machine, by number and value.
use Rattle.std.specs.Prelude.{ℕ, ◌+◌, ◌≡◌, List, Result, Ok, Err, Option, Some, None}
use Rattle.leaves.specs.Refusal.Verdict.{Answer, answer, refusal_answer}
use Rattle.setter.specs.declared.answer.Stop.{Stop}
use Rattle.setter.specs.declared.answer.Stop.TheVariants.{
  CellTooMany,
  CellTooFew,
  EmptyTable,
  BreakInLine,
  LinkInLink,
  HeadingDepth,
  ItemNumber,
  BulletNumber,
  EmptyList,
  EmptyContent,
  BreakAfterBreak,
  InnerFrontmatter,
  LineEnding,
  AdjacentLists,
}
use Rattle.setter.specs.declared.answer.Setting.{Setting}
use Rattle.setter.specs.declared.answer.Setting.TheVariants.{Ended, Stopped}
use Rattle.setter.specs.declared.answer.SetError.{SetError}
use Rattle.setter.specs.declared.answer.SetError.TheVariants.{Malformed, ShortMarks}

-- the number of "short marks"
abbrev pub short_marks : ℕ
short_marks = 12

-- A refusal of the sheet or of the marks, as the machine answers it: its number has 256 added, so that it is no stop.
-- (Document 01 gives 1 to 12 to refusals and 1 to 14 to stops; docs/DIFFERENCES.md has this among the readings.)
abbrev pub refused_as : Answer → Answer
refused_as a = answer (256 + a.number) a.value

-- the number of a stop, in the table of stops
abbrev pub stop_number : Stop → ℕ
stop_number CellTooMany = 1
stop_number CellTooFew = 2
stop_number EmptyTable = 3
stop_number BreakInLine = 4
stop_number LinkInLink = 5
stop_number HeadingDepth = 6
stop_number ItemNumber = 7
stop_number BulletNumber = 8
stop_number EmptyList = 9
stop_number EmptyContent = 10
stop_number BreakAfterBreak = 11
stop_number InnerFrontmatter = 12
stop_number LineEnding = 13
stop_number AdjacentLists = 14

-- the number of the stop, and 0 where there is none
abbrev pub number_in : Option Stop → ℕ
number_in None = 0
number_in (Some stop) = stop_number stop

-- how many stops there are; the number of each is one of 1 to this (`stop-numbered` in proofs/SetLaws.antt)
abbrev pub last_stop : ℕ
last_stop = 14

-- "A refusal returns number and record (from 0; 0 for 1–3 and for 11 and above)".
abbrev pub set_error_answer : SetError → Answer
set_error_answer (Malformed malformed) = refused_as (refusal_answer malformed)
set_error_answer ShortMarks = refused_as (answer short_marks 0)

-- the answer of the machine: how its run ended, or why nothing was set
abbrev pub SetAnswer : Type 0
SetAnswer = Result Setting SetError

-- "Answer: end and record count, or stop and the record being opened or closed", and "stop (0 at the end), record"
abbrev pub setting_answer : SetAnswer → Answer
setting_answer (Ok (Ended records)) = answer 0 records
setting_answer (Ok (Stopped stop i)) = answer (stop_number stop) i
setting_answer (Err error) = set_error_answer error

-- s and the marks after it are the answer and the marks of p. No other answer has the number and value of s
-- (`setting-one` in proofs/SetLaws.antt).
pub record Answers (p : Answer × List ℕ) (s : SetAnswer) (marked : List ℕ) : Type 0 where
  pub answer : (setting_answer s, marked) ≡ p

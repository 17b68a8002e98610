-- What running both the check and the setting machine promises: the two equations, and demand 3 about what was written.
use Rattle.std.specs.Prelude.{ℕ, ◌≡◌, List}
use Rattle.leaves.specs.Report.Entries.{entries_in}
use Rattle.blocks.specs.Answer.{Checked}
use Rattle.blocks.specs.Check.{checked_answer, check_outcome}
use Rattle.setter.specs.Answer.{SetAnswer, Answers}
use Rattle.setter.specs.SetOutcome.{set_outcome}
use Rattle.setter.specs.Agrees.{Agrees}

-- a sheet, its text, the report and the marks before; the check's answer and the report after it; the machine's answer
-- and the marks after it
pub record ChecksAndSets
    (w bytes report marks : List ℕ)
    (checked : Checked)
    (written : List ℕ)
    (set : SetAnswer)
    (marked : List ℕ) : Type 0 where
  -- the check's equation
  pub check : (checked_answer checked, written) ≡ check_outcome w bytes report
  -- the machine's
  pub machine : Answers (set_outcome w bytes marks) set marked
  -- Demand 3, where the check accepts: "Its list is the entries the check wrote; its run and stop are the machine's on
  -- the same sheet and text." The entries are read back from the report's words.
  pub demand : (checked_answer checked).number ≡ 0
      → Agrees w bytes (entries_in (checked_answer checked).value written)

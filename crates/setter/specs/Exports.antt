-- What the C functions promise: an answer in the two halves of one number, and the lent words after the call.
use Rattle.std.specs.Prelude.{ℕ, ◌/◌, ◌%◌, ◌^◌, ◌<◌, ◌≡◌, List}
use Rattle.leaves.specs.Sheet.Records.{records_of}
use Rattle.leaves.specs.Report.Entries.{entries_in}
use Rattle.leaves.specs.Refusal.Verdict.{Answer}
use Rattle.blocks.specs.Check.{check_outcome}
use Rattle.setter.specs.Machine.{run_answer}
use Rattle.setter.specs.SetOutcome.{set_outcome}
use Rattle.setter.specs.Agrees.{Agrees}

-- the number is the upper half of r, and the value the lower
pub record Halves (r : ℕ) (a : Answer) : Type 0 where
  pub number : r / 2 ^ 32 ≡ a.number
  pub value : r % 2 ^ 32 ≡ a.value

-- what `reedsander_check` promises of the number that it hands back and of the report after the call
pub record CheckPromise (w bytes report : List ℕ) (r : ℕ) (written : List ℕ) : Type 0 where
  pub answer : Halves r (check_outcome w bytes report).0
  pub words : written ≡ (check_outcome w bytes report).1

-- what `reedsander_set` promises of the number that it hands back and of the marks after the call
pub record SetPromise (w bytes marks : List ℕ) (r : ℕ) (marked : List ℕ) : Type 0 where
  pub answer : Halves r (set_outcome w bytes marks).0
  pub words : marked ≡ (set_outcome w bytes marks).1

-- Demand 3 of what a C caller holds: the number `checked` of an accepting check, the report after it, and the number
-- `set` of the machine for the same sheet and text. Both promises give it (`shipped` in proofs/ExportLaws.antt).
pub record Shipped (w bytes : List ℕ) (checked : ℕ) (written : List ℕ) (set : ℕ) : Type 0 where
  -- the entries that the answer counts, read back from the report, agree with the run
  pub agrees : Agrees w bytes (entries_in (checked % 2 ^ 32) written)
  -- the machine's number is the answer of that run, unless the marks are refused (256 and more)
  pub ran : set / 2 ^ 32 < 256 → Halves set (run_answer w bytes)
  -- and so where the check lists nothing, the machine comes to the end of all records
  pub clean : checked ≡ 0 → set / 2 ^ 32 < 256 → set ≡ records_of w

-- The answer for a sheet: document 01, 'The call': "A refusal returns number and record".
use Rattle.std.specs.Prelude.{ℕ, Err, Ok, Result, is_ok, if◌then◌else◌}
use Rattle.leaves.specs.declared.refusal.verdict.Malformed.{Malformed}
use Rattle.leaves.specs.declared.refusal.verdict.Malformed.TheVariants.{
  OddSheet,
  LongSheet,
  LongText,
  UnknownKind,
  BadLevel,
  Misplaced,
  BadField,
  TextOutside,
  NotUtf8,
  TagsMissing,
}

-- An answer as document 01 gives it: a number, and a record or a count.
pub record Answer : Type 0 where
  pub number : ℕ
  pub value : ℕ

abbrev pub answer : ℕ → ℕ → Answer
answer n v = record { number = n; value = v }

-- The table of refusals: "A refusal returns number and record (from 0; 0 for 1–3 ..)".
abbrev pub refusal_answer : Malformed → Answer
refusal_answer OddSheet = answer 1 0
refusal_answer LongSheet = answer 2 0
refusal_answer LongText = answer 3 0
refusal_answer (UnknownKind i) = answer 4 i
refusal_answer (BadLevel i) = answer 5 i
refusal_answer (Misplaced i) = answer 6 i
refusal_answer (BadField i) = answer 7 i
refusal_answer (TextOutside i) = answer 8 i
refusal_answer (NotUtf8 i) = answer 9 i
refusal_answer (TagsMissing i) = answer 10 i

-- the answer for a sheet: it is accepted, or malformed
abbrev pub Judged : Type 0
Judged = Result (Unit {0}) Malformed

-- number and record of the answer for a sheet; both are 0 where it is accepted
abbrev pub judged_answer : Judged → Answer
judged_answer (Ok accepted) = answer 0 0
judged_answer (Err malformed) = refusal_answer malformed

-- the first where it is a refusal, else the other
unfoldable pub or_else : Judged → Judged → Judged
or_else j other = if is_ok j then other else j

-- `leaves::text::field::read_digits` meets its contract.
use Rattle.leaves.proofs.text.FieldLaws.{Digits}
use Rattle.leaves.proofs.text.field.read_digits.Given as goal

abbrev pub invariant-loop-b : goal.invariant-loop-b
invariant-loop-b l = Digits l.s l.n l.b-index

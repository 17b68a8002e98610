-- `leaves::text::field::put_front` meets its contract.
use Rattle.leaves.proofs.text.FieldLaws.{Filling}
use Rattle.leaves.proofs.text.field.put_front.Given as goal

abbrev pub invariant-loop-i : goal.invariant-loop-i
invariant-loop-i l = Filling l.initial.cells l.n l.cells l.rest l.i

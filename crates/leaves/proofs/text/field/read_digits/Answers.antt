-- `leaves::text::field::read_digits` meets its contract.
use mathlib.Core.Path.{◌∙◌}
use native.Mathlib.Omega.{arith}
use Rattle.leaves.proofs.text.FieldLaws.{digits, digits-large, digits-next}
use Rattle.leaves.proofs.text.field.read_digits.Goals as goal

pub returns-then-not-is_digit : goal.returns-then-not-is_digit
returns-then-not-is_digit c = search digits

pub returns-in_err-checked_mul : goal.returns-in_err-checked_mul
returns-in_err-checked_mul c = c.from_residual.ensures ∙ digits-large c.loop-b.invariant c.loop-b-test.true c.is_digit.ensures c.if-not-is_digit.false (omega (arith, c.in_err-checked_mul.ensures))

pub returns-in_err-n : goal.returns-in_err-n
returns-in_err-n c = c.from_residual-in_err-n.ensures ∙ digits-large c.loop-b.invariant c.loop-b-test.true c.is_digit.ensures c.if-not-is_digit.false (omega (arith, c.in_ok-checked_mul.ensures, c.from.ensures, c.in_err-n.ensures))

pub loop-b-preserved : goal.loop-b-preserved
loop-b-preserved c = digits-next c.loop-b.invariant c.loop-b-test.true c.is_digit.ensures c.if-not-is_digit.false (omega (arith, c.in_ok-checked_mul.ensures, c.from.ensures, c.in_ok-n.ensures)) (omega (arith, c.in_ok-n.ensures))

pub returns : goal.returns
returns c = search digits

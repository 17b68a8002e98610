-- `leaves::text::columns::read_line` meets its contract.
use mathlib.Core.Path.{refl, ◌∙◌}
use Prim.Native.Nat.{◌≤◌}
use native.Mathlib.Omega.{arith}
use lib.ListN.{length}
use Rattle.leaves.proofs.text.ColumnLaws.{line-next, line-good, line-words}
use Rattle.leaves.proofs.text.columns.read_line.Goals as goal

pub loop-k-preserved : goal.loop-k-preserved
loop-k-preserved c = line-next c.loop-k.invariant (omega (arith, c.loop-k.invariant.long)) c.part.ensures c.read_field-field.ensures c.unwrap_or.ensures c.is_some-good.ensures

pub returns-then-good : goal.returns-then-good
returns-then-good c =
    let done : length c.loop-k.words ≤ c.loop-k.k = omega (arith, c.loop-k.invariant.long) in
    (rw c.if-good.true at (line-good c.loop-k.invariant done c.ends_at.ensures), line-words c.loop-k.invariant done)

pub returns-else-good : goal.returns-else-good
returns-else-good c =
    let done : length c.loop-k.words ≤ c.loop-k.k = omega (arith, c.loop-k.invariant.long) in
    let none = line-good c.loop-k.invariant done refl in
    (c.if-good.false ∙ rw c.if-good.false at none, line-words c.loop-k.invariant done)

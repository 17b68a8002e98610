-- `leaves::text::scalars::Character::after` meets its contract.
use native.Mathlib.Omega.{arith}
use mathlib.Core.Path.{sym, ◌∙◌}
use Rattle.leaves.proofs.text.ScalarLaws.{ascii_expected, ascii_room, ascii_value, room_kept}
use Rattle.leaves.proofs.text.scalars.Character.after.Goals as goal

pub returns-then-is_whole-clause-expected : goal.returns-then-is_whole-clause-expected
returns-then-is_whole-clause-expected c =
    let o = c.args.self.expected in
    rw (← ascii_expected o.more o.low o.high c.args.self.value c.args.b (sym c.is_whole.ensures ∙ c.if-is_whole.true) (omega arith)) c.trails.ensures

pub returns-then-is_whole-clause-value : goal.returns-then-is_whole-clause-value
returns-then-is_whole-clause-value c =
    let o = c.args.self.expected in
    c.from.ensures ∙ ascii_value o.more o.low o.high c.args.self.value c.args.b (sym c.is_whole.ensures ∙ c.if-is_whole.true) (omega arith)

pub invariant_of-result : goal.invariant_of-result
invariant_of-result c = record { small = ascii_room c.trails.ensures (omega (arith, c.from.ensures)) }

pub invariant_of-result-2 : goal.invariant_of-result-2
invariant_of-result-2 c =
    let o = c.args.self.expected in
    let p = c.after.result in
    record { small = rw c.value_after.ensures (room_kept p.more p.low p.high o.more o.low o.high c.args.self.value c.args.b (omega arith) c.args.self.small c.after.ensures.all) }

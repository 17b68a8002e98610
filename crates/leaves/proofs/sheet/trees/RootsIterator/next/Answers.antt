-- `leaves::sheet::trees::Roots::next` meets its contract.
use mathlib.Core.Path.{◌∙◌}
use Rattle.leaves.proofs.sheet.RootLaws.{Behind, behind-given, behind-none, roots-none, roots-behind, passes-none, roots-first, fewer}
use Rattle.leaves.proofs.sheet.trees.RootsIterator.next.Goals.{in-Some, in_default}
use Rattle.leaves.proofs.sheet.trees.RootsIterator.next.Goals as goal

pub returns-in_err-root-clause-steps : goal.returns-in_err-root-clause-steps
returns-in_err-root-clause-steps c =
    let b : Behind c.args.self.now c.match-take.self = elim c.match-take.branch [ in-Some w ↦ behind-given c.take.ensures.value w.in-Some.is w.skip.ensures (rw c.take.ensures.after at w.self-is) | in_default w ↦ behind-none c.take.ensures.value w.in_default.is (rw c.take.ensures.after at w.self-is) ] in
    passes-none c.from_residual.ensures (b.left ∙ roots-none c.in_err-root.ensures.none) (roots-behind c.in_err-root.ensures.none b.none_given)

pub returns-clause-steps : goal.returns-clause-steps
returns-clause-steps c =
    let b : Behind c.args.self.now c.match-take.self = elim c.match-take.branch [ in-Some w ↦ behind-given c.take.ensures.value w.in-Some.is w.skip.ensures (rw c.take.ensures.after at w.self-is) | in_default w ↦ behind-none c.take.ensures.value w.in_default.is (rw c.take.ensures.after at w.self-is) ] in
    b.left ∙ roots-first c.in_ok-root.ensures.some

pub returns-clause-goes : goal.returns-clause-goes
returns-clause-goes c = record { on = λ _. (tt, tt, fewer (returns-clause-steps c)); keeps = tt; rests = λ _. tt }

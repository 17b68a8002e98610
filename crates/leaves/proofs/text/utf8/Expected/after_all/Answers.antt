-- `leaves::text::utf8::Expected::after_all` meets its contract.
use mathlib.Core.Path.{refl, ap, ◌∙◌}
use native.Mathlib.Omega.{arith}
use Rattle.leaves.proofs.text.ScanLaws.{stop, turn, end}
use Rattle.leaves.specs.Text.Utf8.{well_formed}
use Rattle.leaves.proofs.text.Utf8Laws.{utf8-no, utf8-yes, utf8-never}
use Rattle.leaves.proofs.text.utf8.Expected.after_all.Goals as goal

pub loop-b-init : goal.loop-b-init
loop-b-init c = λ behind. record { within = omega arith; same = refl }

pub returns-then-breaks_character : goal.returns-then-breaks_character
returns-then-breaks_character c = λ behind. ap (λ o. well_formed o behind) c.follow.ensures.all ∙ utf8-never _ ∙ stop c.loop-b-test.true (c.loop-b.invariant behind) (utf8-no _ _ _ c.breaks_character.ensures c.if-breaks_character.true)

pub loop-b-preserved : goal.loop-b-preserved
loop-b-preserved c = λ behind. turn c.loop-b-test.true (c.loop-b.invariant behind) (utf8-yes _ _ _ c.breaks_character.ensures c.if-breaks_character.false c.after-expected.ensures.all)

pub returns : goal.returns
returns c = λ behind. end c.loop-b-test.false (c.loop-b.invariant behind) refl

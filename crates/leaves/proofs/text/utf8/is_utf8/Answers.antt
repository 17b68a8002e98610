-- `leaves::text::utf8::is_utf8` meets its contract.
use mathlib.Core.Path.{◌∙◌, ap, sym}
use borrow.Author.Rules.{rules}
use borrow.Author.Tests.{tests}
use Rattle.leaves.specs.Text.Utf8.{is_utf8, well_formed}
use Rattle.leaves.proofs.text.Utf8Laws.{utf8-end}
use Rattle.leaves.proofs.text.utf8.is_utf8.Goals as goal

pub loop-rest-init : goal.loop-rest-init
unfolding is_utf8
loop-rest-init c = ap (λ o. well_formed o c.args.s.now) (sym c.trails-expected.ensures.all)

pub returns : goal.returns
returns c = c.is_whole.ensures ∙ utf8-end _ _ _ c.loop-rest.rest.now (search (rules, tests)) ∙ sym c.loop-rest.invariant

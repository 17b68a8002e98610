-- `leaves::text::white::starts_with_white` meets its contract.
use mathlib.Core.Path.{◌∙◌, sym}
use Rattle.leaves.proofs.text.ScanLaws.{stop, turn}
use Rattle.leaves.proofs.text.WhiteLaws.{start_init, start-whole, start-more, white-laws}
use Rattle.leaves.proofs.text.white.starts_with_white.Goals as goal

pub loop-b-init : goal.loop-b-init
loop-b-init c = start_init c.args.s.now c.new-character.ensures.expected.all c.new-character.ensures.value

pub returns-then-breaks_character : goal.returns-then-breaks_character
returns-then-breaks_character c = search white-laws

pub returns-then-is_whole : goal.returns-then-is_whole
returns-then-is_whole c = stop c.loop-b-test.true c.loop-b.invariant (start-whole _ _ _ _ c.breaks_character.ensures c.after-character.result.expected.more c.after-character.result.expected.low c.after-character.result.expected.high c.if-breaks_character.false c.after-character.ensures.expected.all c.after-character.ensures.value (sym c.is_whole.ensures ∙ c.if-is_whole.true) c.is_white.ensures)

pub loop-b-preserved : goal.loop-b-preserved
loop-b-preserved c = turn c.loop-b-test.true c.loop-b.invariant (start-more _ _ _ _ c.breaks_character.ensures c.after-character.result.expected.more c.after-character.result.expected.low c.after-character.result.expected.high c.if-breaks_character.false c.after-character.ensures.expected.all c.after-character.ensures.value (sym c.is_whole.ensures ∙ c.if-is_whole.false))

pub returns : goal.returns
returns c = search white-laws

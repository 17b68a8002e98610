-- `leaves::text::unicode_letters::reads_tag_name` meets its contract.
use mathlib.Core.Path.{◌∙◌, sym, ap, refl}
use mathlib.Core.Bool.{not, ◌&&◌}
use lib.Dec.{eqb}
use Rattle.leaves.proofs.text.ScanLaws.{stop, turn, end}
use Rattle.leaves.proofs.text.TagNameLaws.{tag_init, tag-broken, tag-wrong, tag-right, tag-more, tag-end}
use Rattle.leaves.proofs.text.unicode_letters.reads_tag_name.Goals as goal
use Rattle.leaves.proofs.text.unicode_letters.reads_tag_name.Goals.{then-is_whole+else-not-fits_tag_name, else-is_whole}

pub loop-b-init : goal.loop-b-init
loop-b-init c = tag_init c.args.s.now c.new-character.ensures.expected.all c.new-character.ensures.value

pub returns-then-breaks_character : goal.returns-then-breaks_character
returns-then-breaks_character c = stop c.loop-b-test.true c.loop-b.invariant (tag-broken _ _ _ _ _ c.breaks_character.ensures c.if-breaks_character.true)

pub returns-then-not-fits_tag_name : goal.returns-then-not-fits_tag_name
returns-then-not-fits_tag_name c = stop c.loop-b-test.true c.loop-b.invariant (tag-wrong _ _ _ _ _ c.breaks_character.ensures c.after-character.result.expected.more c.after-character.result.expected.low c.after-character.result.expected.high c.if-breaks_character.false c.after-character.ensures.expected.all c.after-character.ensures.value (sym c.is_whole.ensures ∙ c.if-is_whole.true) c.fits_tag_name.ensures c.if-not-fits_tag_name.true)

pub loop-b-preserved : goal.loop-b-preserved
loop-b-preserved c = elim c.if-is_whole.branch [
  | then-is_whole+else-not-fits_tag_name w ↦ rw w.first-is (turn c.loop-b-test.true c.loop-b.invariant (tag-right _ _ _ _ _ c.breaks_character.ensures c.after-character.result.expected.more c.after-character.result.expected.low c.after-character.result.expected.high c.if-breaks_character.false c.after-character.ensures.expected.all c.after-character.ensures.value (sym c.is_whole.ensures ∙ w.if-is_whole.true) w.fits_tag_name.ensures w.if-not-fits_tag_name.false))
  | else-is_whole w ↦ rw w.first-is (turn c.loop-b-test.true c.loop-b.invariant (tag-more _ _ _ _ _ c.breaks_character.ensures c.after-character.result.expected.more c.after-character.result.expected.low c.after-character.result.expected.high c.if-breaks_character.false c.after-character.ensures.expected.all c.after-character.ensures.value (sym c.is_whole.ensures ∙ w.if-is_whole.false)))
]

pub returns-then-not-first : goal.returns-then-not-first
returns-then-not-first c =
    let o = c.loop-b.character.expected in
    let w = c.is_whole-then-not-first in
    end c.loop-b-test.false c.loop-b.invariant (sym (ap (λ t. not t && w.result) c.if-not-first.true) ∙ tag-end c.loop-b.first o.more o.low o.high c.loop-b.character.value w.ensures)

pub returns-else-not-first : goal.returns-else-not-first
returns-else-not-first c =
    let o = c.loop-b.character.expected in
    end c.loop-b-test.false c.loop-b.invariant (ap not c.if-not-first.false ∙ sym (ap (λ t. not t && eqb o.more 0) c.if-not-first.false) ∙ tag-end c.loop-b.first o.more o.low o.high c.loop-b.character.value refl)

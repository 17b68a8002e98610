-- `leaves::text::white::last_is_white` meets its contract.
use mathlib.Core.Path.{◌∙◌, sym}
use Rattle.leaves.proofs.text.ScanLaws.{turn, end}
use Rattle.leaves.proofs.text.WhiteLaws.{end_init, end-whole, end-broken, end-kept, end-done, end-open}
use Rattle.leaves.proofs.text.white.last_is_white.Goals as goal
use Rattle.leaves.proofs.text.white.last_is_white.Goals.{then-is_whole, else-is_whole+then-broken, else-is_whole+else-broken}

pub loop-b-init : goal.loop-b-init
loop-b-init c = end_init c.args.s.now c.new-character.ensures.expected.all c.new-character.ensures.value

pub loop-b-preserved : goal.loop-b-preserved
loop-b-preserved c =
    elim c.if-is_whole.branch [
      | then-is_whole w ↦ turn c.loop-b-test.true c.loop-b.invariant (end-whole _ _ _ _ _ c.after-character.result.expected.more c.after-character.result.expected.low c.after-character.result.expected.high c.breaks_character-broken.ensures c.after-character.ensures.expected.all c.after-character.ensures.value w.last-is (sym c.is_whole.ensures ∙ w.if-is_whole.true))
      | else-is_whole+then-broken w ↦ turn c.loop-b-test.true c.loop-b.invariant (end-broken _ _ _ _ _ c.after-character.result.expected.more c.after-character.result.expected.low c.after-character.result.expected.high c.breaks_character-broken.ensures c.after-character.ensures.expected.all c.after-character.ensures.value w.last-is (sym c.is_whole.ensures ∙ w.if-is_whole.false) w.if-broken.true)
      | else-is_whole+else-broken w ↦ turn c.loop-b-test.true c.loop-b.invariant (end-kept _ _ _ _ _ c.after-character.result.expected.more c.after-character.result.expected.low c.after-character.result.expected.high c.breaks_character-broken.ensures c.after-character.ensures.expected.all c.after-character.ensures.value w.last-is (sym c.is_whole.ensures ∙ w.if-is_whole.false) w.if-broken.false)
    ]

pub returns-then-is_whole-2 : goal.returns-then-is_whole-2
returns-then-is_whole-2 c = end c.loop-b-test.false c.loop-b.invariant (end-done _ c.loop-b.character.expected.more c.loop-b.character.expected.low c.loop-b.character.expected.high _ (sym c.is_whole-2.ensures ∙ c.if-is_whole-2.true) c.is_white.ensures)

pub returns-else-is_whole-2 : goal.returns-else-is_whole-2
returns-else-is_whole-2 c = end c.loop-b-test.false c.loop-b.invariant (end-open _ c.loop-b.character.expected.more c.loop-b.character.expected.low c.loop-b.character.expected.high _ (sym c.is_whole-2.ensures ∙ c.if-is_whole-2.false) c.if-is_whole-2.false)

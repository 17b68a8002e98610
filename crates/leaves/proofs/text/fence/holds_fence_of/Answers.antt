-- `leaves::text::fence::holds_fence_of` meets its contract.
use mathlib.Core.Path.{◌∙◌, sym}
use Rattle.leaves.proofs.text.ScanLaws.{turn, stop, end}
use Rattle.leaves.proofs.text.FenceLaws.{fence-skip, fence-in, fence-whole, fence-ends, fence-end}
use Rattle.leaves.proofs.text.fence.holds_fence_of.Goals as goal
use Rattle.leaves.proofs.text.fence.holds_fence_of.Goals.{then-not-is_line_ending_byte, else-not-is_line_ending_byte+else-eq}

pub loop-i-preserved-then-is_cr_of_crlf : goal.loop-i-preserved-then-is_cr_of_crlf
loop-i-preserved-then-is_cr_of_crlf c = turn c.loop-i-test.true c.loop-i.invariant (fence-skip _ _ _ _ (sym c.is_cr_of_crlf.ensures ∙ c.if-is_cr_of_crlf.true))

pub returns-then-eq : goal.returns-then-eq
returns-then-eq c = stop c.loop-i-test.true c.loop-i.invariant (fence-whole _ _ _ _ (sym c.is_cr_of_crlf.ensures ∙ c.if-is_cr_of_crlf.false) (sym c.is_line_ending_byte.ensures ∙ c.if-not-is_line_ending_byte.false) (sym c.eq.ensures ∙ c.if-eq.true))

pub loop-i-preserved : goal.loop-i-preserved
loop-i-preserved c =
    elim c.if-not-is_line_ending_byte.branch [
      | then-not-is_line_ending_byte w ↦ rw (w.left-is, w.fence_left-left.ensures) (turn c.loop-i-test.true c.loop-i.invariant (fence-in _ _ _ _ (sym c.is_cr_of_crlf.ensures ∙ c.if-is_cr_of_crlf.false) (sym c.is_line_ending_byte.ensures ∙ w.if-not-is_line_ending_byte.true)))
      | else-not-is_line_ending_byte+else-eq w ↦ rw w.left-is (turn c.loop-i-test.true c.loop-i.invariant (fence-ends _ _ _ _ (sym c.is_cr_of_crlf.ensures ∙ c.if-is_cr_of_crlf.false) (sym c.is_line_ending_byte.ensures ∙ w.if-not-is_line_ending_byte.false) (sym w.eq.ensures ∙ w.if-eq.false)))
    ]

pub returns : goal.returns
returns c = end c.loop-i-test.false c.loop-i.invariant (c.eq-2.ensures ∙ fence-end _ _)

-- `leaves::text::edges::last_line_is_blank` meets its contract.
use mathlib.Core.Path.{◌∙◌, sym}
use Rattle.leaves.proofs.text.ScanLaws.{turn, end}
use Rattle.leaves.proofs.text.LineLaws.{last-skip, last-end, last-in, last_none}
use Rattle.leaves.proofs.text.edges.last_line_is_blank.Goals as goal
use Rattle.leaves.proofs.text.edges.last_line_is_blank.Goals.{then-is_line_ending_byte, else-is_line_ending_byte}

pub loop-i-preserved-then-is_cr_of_crlf : goal.loop-i-preserved-then-is_cr_of_crlf
loop-i-preserved-then-is_cr_of_crlf c = turn c.loop-i-test.true c.loop-i.invariant (last-skip _ _ _ _ (sym c.is_cr_of_crlf.ensures ∙ c.if-is_cr_of_crlf.true))

pub loop-i-preserved : goal.loop-i-preserved
loop-i-preserved c =
    elim c.if-is_line_ending_byte.branch [
      | then-is_line_ending_byte w ↦ rw (w.last-is, w.blank-is) (turn c.loop-i-test.true c.loop-i.invariant (last-end _ _ _ _ (sym c.is_cr_of_crlf.ensures ∙ c.if-is_cr_of_crlf.false) (sym c.is_line_ending_byte.ensures ∙ w.if-is_line_ending_byte.true)))
      | else-is_line_ending_byte w ↦ rw (w.last-is, w.blank-is, w.is_blank_byte-blank.ensures) (turn c.loop-i-test.true c.loop-i.invariant (last-in _ _ _ _ (sym c.is_cr_of_crlf.ensures ∙ c.if-is_cr_of_crlf.false) (sym c.is_line_ending_byte.ensures ∙ w.if-is_line_ending_byte.false)))
    ]

pub returns : goal.returns
returns c = end c.loop-i-test.false c.loop-i.invariant (last_none _ _)

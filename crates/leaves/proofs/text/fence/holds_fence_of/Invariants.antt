-- `leaves::text::fence::holds_fence_of` meets its contract.
use Rattle.std.proofs.Common.{Some}
use Rattle.leaves.proofs.text.ScanLaws.{ScanAt}
use Rattle.leaves.specs.Text.FenceScans.{fence_from}
use Rattle.leaves.proofs.text.fence.holds_fence_of.Given as goal

abbrev pub invariant-loop-i : goal.invariant-loop-i
invariant-loop-i l = ScanAt (fence_from l.c (Some 3) l.s) (fence_from l.c l.left) l.s l.i

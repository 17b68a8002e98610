-- `leaves::sheet::forest::skip` meets its contract.
use mathlib.Core.Path.{◌≡◌}
use Prim.Native.Nat.{◌+◌}
use Rattle.leaves.specs.Sheet.Forest.{under, size}
use Rattle.leaves.proofs.sheet.forest.skip.Given as goal

abbrev pub invariant-loop-i : goal.invariant-loop-i
invariant-loop-i l = l.i + size (under l.sheet l.n l.i l.level) ≡ l.«from» + size (under l.sheet l.n l.«from» l.level)

-- `setter::machine::run_records` meets its contract.
use Prim.Native.Nat.{◌+◌, ◌*◌, ◌-◌}
use Rattle.setter.proofs.RunLaws.{Running}
use Rattle.setter.proofs.machine.run_records.Given as goal

abbrev pub invariant-loop-i : goal.invariant-loop-i
invariant-loop-i l = Running l.sheet l.text l.initial.marks l.n l.marks l.«open» l.depth l.i

abbrev pub decreases-loop-i : goal.decreases-loop-i
decreases-loop-i l = 2 * (l.n - l.i) + l.depth

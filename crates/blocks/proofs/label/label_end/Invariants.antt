-- `blocks::label::label_end` meets its contract.
use mathlib.Core.Path.{◌≡◌}
use Prim.Native.Nat.{◌-◌}
use Rattle.blocks.proofs.LabelLaws.{Labelling}
use Rattle.blocks.proofs.label.label_end.Given as goal

abbrev pub invariant-loop-r : goal.invariant-loop-r
invariant-loop-r l = record { label : Labelling l.level l.initial.records l.records; end : l.end ≡ l.records.next }

abbrev pub decreases-loop-r : goal.decreases-loop-r
decreases-loop-r l = l.records.n - l.records.next

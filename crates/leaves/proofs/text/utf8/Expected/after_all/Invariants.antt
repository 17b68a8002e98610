-- `leaves::text::utf8::Expected::after_all` meets its contract.
use Rattle.std.proofs.Common.{ℕ, List, ◌++◌}
use Rattle.leaves.proofs.text.ScanLaws.{ScanAt}
use Rattle.leaves.specs.Text.Utf8Expected.{expected_of}
use Rattle.leaves.specs.Text.Utf8.{well_formed}
use Rattle.leaves.proofs.text.utf8.Expected.after_all.Given as goal

abbrev pub invariant-loop-b : goal.invariant-loop-b
invariant-loop-b l = (behind : List ℕ) → ScanAt (well_formed (expected_of l.initial.expected) (l.bytes ++ behind)) (λ t. well_formed (expected_of l.expected) (t ++ behind)) l.bytes l.b-index

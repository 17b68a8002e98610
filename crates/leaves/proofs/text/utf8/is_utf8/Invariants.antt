-- `leaves::text::utf8::is_utf8` meets its contract.
use Rattle.std.proofs.Common.{◌≡◌}
use lib.ListN.{length}
use Rattle.leaves.specs.Text.Utf8Expected.{expected_of}
use Rattle.leaves.specs.Text.Utf8.{is_utf8, well_formed}
use Rattle.leaves.proofs.text.utf8.is_utf8.Given as goal

abbrev pub invariant-loop-rest : goal.invariant-loop-rest
invariant-loop-rest l = is_utf8 l.s ≡ well_formed (expected_of l.expected) l.rest

abbrev pub decreases-loop-rest : goal.decreases-loop-rest
decreases-loop-rest l = length l.rest

-- `leaves::text::white::starts_with_white` meets its contract.
use Rattle.leaves.proofs.text.ScanLaws.{ScanAt}
use Rattle.leaves.proofs.text.WhiteLaws.{start_from}
use Rattle.leaves.specs.Text.Utf8Expected.{expected_of}
use Rattle.leaves.specs.Text.White.{starts_with_white}
use Rattle.leaves.proofs.text.white.starts_with_white.Given as goal

abbrev pub invariant-loop-b : goal.invariant-loop-b
invariant-loop-b l = ScanAt (starts_with_white l.s) (start_from (expected_of l.character.expected) l.character.value) l.s l.b-index

-- `leaves::text::white::last_is_white` meets its contract.
use Rattle.leaves.proofs.text.ScanLaws.{ScanAt}
use Rattle.leaves.proofs.text.WhiteLaws.{end_from}
use Rattle.leaves.specs.Text.Utf8Expected.{expected_of}
use Rattle.leaves.specs.Text.White.{ends_with_white}
use Rattle.leaves.proofs.text.white.last_is_white.Given as goal

abbrev pub invariant-loop-b : goal.invariant-loop-b
invariant-loop-b l = ScanAt (ends_with_white l.s) (end_from l.last (expected_of l.character.expected) l.character.value) l.s l.b-index

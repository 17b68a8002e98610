-- `leaves::text::unicode_letters::reads_tag_name` meets its contract.
use Rattle.leaves.proofs.text.ScanLaws.{ScanAt}
use Rattle.leaves.proofs.text.TagNameLaws.{tag_from}
use Rattle.leaves.specs.Text.Utf8Expected.{expected_of}
use Rattle.leaves.specs.Text.UnicodeLetters.{is_tag_name}
use Rattle.leaves.proofs.text.unicode_letters.reads_tag_name.Given as goal

abbrev pub invariant-loop-b : goal.invariant-loop-b
invariant-loop-b l = ScanAt (is_tag_name l.s) (tag_from l.first (expected_of l.character.expected) l.character.value) l.s l.b-index

-- `leaves::text::unicode_letters::is_ascii_tag_name` meets its contract.
use mathlib.Core.Path.{refl}
use borrow.Author.Rules.{rules}
use borrow.Author.Tests.{tests}
use Rattle.leaves.proofs.text.ChainLaws.{all-of}
use Rattle.leaves.proofs.text.TagNameLaws.{ascii_empty, ascii_first}
use Rattle.leaves.specs.Text.TagNameScans.{is_ascii_tag_name_char, is_ascii_tag_name}
use Rattle.leaves.proofs.text.unicode_letters.is_ascii_tag_name.Goals as goal

pub returns-in-empty : goal.returns-in-empty
returns-in-empty c = ascii_empty c.args.s.now c.in-empty.len_below

pub returns-then-is_letter : goal.returns-then-is_letter
unfolding is_ascii_tag_name
returns-then-is_letter c = rw (ascii_first c.args.s.now, ← c.is_letter.ensures, c.if-is_letter.true) (all-of is_ascii_tag_name_char c.args.s.now c.all.ensures.ran (cc) (λ x b q k. search (rules, tests)))

pub returns-else-is_letter : goal.returns-else-is_letter
unfolding is_ascii_tag_name
returns-else-is_letter c = rw (ascii_first c.args.s.now, ← c.is_letter.ensures, c.if-is_letter.false) refl

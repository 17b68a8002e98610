-- `blocks::paragraph::all_empty` meets its contract.
use mathlib.Core.Bool.{not, ◌||◌}
use borrow.Author.Rules.{rules}
use borrow.Author.Tests.{tests}
use Rattle.leaves.specs.Sheet.Kinds.{is_inline}
use Rattle.leaves.specs.Sheet.Empty.{is_empty_text}
use Rattle.leaves.proofs.sheet.RootLaws.{all-of}
use Rattle.inlines.specs.Nodes.{all_empty}
use Rattle.inlines.proofs.ContentLaws.{all_empty-none, all_empty-tree}
use Rattle.blocks.proofs.paragraph.all_empty.Goals as goal

pub returns : goal.returns
returns c = all-of (λ r _. not (is_inline r.kind) || is_empty_text r) all_empty c.all.new.self _ c.all.ensures.ran c.roots.ensures (λ t b q k. search (rules, tests)) all_empty-none all_empty-tree

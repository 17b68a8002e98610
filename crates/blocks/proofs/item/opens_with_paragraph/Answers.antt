-- `blocks::item::opens_with_paragraph` meets its contract.
use mathlib.Core.Path.{refl}
use mathlib.Core.Bool.{not, ◌&&◌}
use lib.Dec.{eqb}
use borrow.Author.Rules.{rules}
use borrow.Author.Tests.{tests}
use Rattle.leaves.specs.Sheet.Forest.{count_trees}
use Rattle.leaves.specs.Sheet.Kinds.{paragraph, definition}
use Rattle.leaves.proofs.sheet.RootLaws.{find-of}
use Rattle.blocks.specs.Item.{opens_with_paragraph}
use Rattle.blocks.proofs.ItemLaws.{opens-tree}
use Rattle.blocks.proofs.item.opens_with_paragraph.Goals as goal

pub returns : goal.returns
unfolding opens_with_paragraph
returns c = find-of (λ r _. not (eqb r.kind definition)) (λ r kids. eqb r.kind paragraph && not (eqb (count_trees kids) 0)) opens_with_paragraph c.find.new.self c.find.result _ c.find.ensures.ran c.roots.ensures (λ t b q k. search (rules, tests)) c.is_some_and.ensures (λ t k. search (rules, tests)) refl opens-tree

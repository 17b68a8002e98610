-- `blocks::list::holds_one_block` meets its contract.
use mathlib.Core.Path.{sym, ◌∙◌}
use Rattle.leaves.specs.Sheet.Trees.{trees}
use Rattle.leaves.proofs.sheet.RootLaws.{is-last}
use Rattle.blocks.proofs.ListLaws.{holds-none, holds-one, holds-more}
use Rattle.blocks.proofs.list.holds_one_block.Goals as goal

pub returns-in_default : goal.returns-in_default
returns-in_default c = holds-none (trees c.args.records.now c.args.level) (sym c.roots-items.ensures ∙ c.in_default.ensures.steps.0)

pub returns-then-is_none : goal.returns-then-is_none
returns-then-is_none c = holds-one (trees c.args.records.now c.args.level) (sym c.roots-items.ensures ∙ c.in-Some.ensures.steps) (is-last _ _ c.next-2.result c.is_none.result c.next-2.ensures.steps c.is_none.ensures) c.if-is_none.true c.count_full.ensures

pub returns-else-is_none : goal.returns-else-is_none
returns-else-is_none c = holds-more (trees c.args.records.now c.args.level) (sym c.roots-items.ensures ∙ c.in-Some.ensures.steps) (is-last _ _ c.next-2.result c.is_none.result c.next-2.ensures.steps c.is_none.ensures) c.if-is_none.false

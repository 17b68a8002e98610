-- `blocks::list::count_full` meets its contract.
use mathlib.Core.Path.{refl}
use mathlib.Core.Bool.{not}
use mathlib.Core.Logic.{inl}
use lib.Dec.{eqb}
use borrow.Author.Rules.{rules, of_calls}
use borrow.Author.Tests.{tests}
use Rattle.leaves.specs.Sheet.Kinds.{blank_line}
use Rattle.leaves.proofs.sheet.RootLaws.{count-of, count-fits}
use Rattle.blocks.specs.List.{count_full}
use Rattle.blocks.proofs.ListLaws.{full-tree}
use Rattle.blocks.proofs.list.count_full.Goals as goal

pub count-requires : goal.count-requires
count-requires c = record { can = search of_calls; finite = search of_calls; fits = inl (count-fits c.filter.result c.args.records.now _ c.filter.ensures.source c.roots.ensures) }

pub returns : goal.returns
unfolding count_full
returns c = count-of (λ r _. not (eqb r.kind blank_line)) count_full c.count.ensures.ran c.filter.ensures.source c.filter.ensures.closure c.roots.ensures (λ t b q k. search (rules, tests)) refl full-tree

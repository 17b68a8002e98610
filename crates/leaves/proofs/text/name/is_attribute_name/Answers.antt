-- `leaves::text::name::is_attribute_name` meets its contract.
use mathlib.Core.Path.{◌∙◌}
use native.Mathlib.Omega.{arith}
use lib.ListN.{drop}
use borrow.Author.Rules.{rules}
use borrow.Author.Tests.{tests}
use Rattle.leaves.proofs.text.ChainLaws.{all-of, tail-all}
use Rattle.leaves.proofs.text.NameLaws.{attribute-none, attribute-no, attribute-yes}
use Rattle.leaves.specs.Text.Name.{continues_attribute}
use Rattle.leaves.proofs.text.name.is_attribute_name.Goals as goal

pub returns-in-empty : goal.returns-in-empty
returns-in-empty c = attribute-none c.args.s.now (omega arith)

pub returns-then-begins_attribute : goal.returns-then-begins_attribute
returns-then-begins_attribute c = attribute-yes c.args.s.now c.in-len1-up.len_at_least c.begins_attribute.ensures c.if-begins_attribute.true (all-of continues_attribute (drop 1 c.args.s.now) c.all.ensures.ran (c.iter.ensures.rest ∙ tail-all c.args.s.now 1) (λ x b q k. search (rules, tests)))

pub returns-else-begins_attribute : goal.returns-else-begins_attribute
returns-else-begins_attribute c = attribute-no c.args.s.now c.in-len1-up.len_at_least c.begins_attribute.ensures c.if-begins_attribute.false

-- `blocks::html::validate_tags` meets its contract.
use mathlib.Core.Path.{sym, ◌∙◌}
use Rattle.leaves.specs.Sheet.Trees.{trees}
use Rattle.blocks.proofs.HtmlLaws.{html-none, html-one, html-two}
use Rattle.blocks.proofs.html.validate_tags.Goals as goal

pub returns-in_default : goal.returns-in_default
returns-in_default c = html-none _ _ _ (trees c.args.records.now c.args.report.now.level) (sym c.roots-tags.ensures ∙ c.in_default.ensures.steps.0)

pub returns-in_default-next : goal.returns-in_default-next
returns-in_default-next c = html-one _ _ _ (trees c.args.records.now c.args.report.now.level) (sym c.roots-tags.ensures ∙ c.in-Some.ensures.steps) c.in_default-next.ensures.steps.0

pub returns : goal.returns
returns c = html-two _ _ _ (trees c.args.records.now c.args.report.now.level) (sym c.roots-tags.ensures ∙ c.in-Some.ensures.steps) c.in-Some-next.ensures.steps c.validate_tag_pair.ensures

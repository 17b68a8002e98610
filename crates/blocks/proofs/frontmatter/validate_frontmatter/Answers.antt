-- `blocks::frontmatter::validate_frontmatter` meets its contract.
use borrow.Author.Rules.{rules}
use Rattle.leaves.proofs.report.ListedLaws.{adds_both}
use Rattle.blocks.specs.Frontmatter.{validate_frontmatter}
use Rattle.blocks.proofs.frontmatter.validate_frontmatter.Goals as goal

pub returns : goal.returns
unfolding validate_frontmatter
returns c = adds_both c.list_if.ensures c.list_if-2.ensures (search rules)

-- `leaves::text::name::is_blank_identifier` meets its contract.
use borrow.Author.Rules.{rules}
use borrow.Author.Tests.{tests}
use Rattle.leaves.proofs.text.ChainLaws.{all-of}
use Rattle.leaves.specs.Text.Name.{is_trimmed_byte, is_blank_identifier}
use Rattle.leaves.proofs.text.name.is_blank_identifier.Goals as goal

pub returns : goal.returns
unfolding is_blank_identifier
returns c = all-of is_trimmed_byte c.args.s.now c.all.ensures.ran (cc) (λ x b q k. search (rules, tests))

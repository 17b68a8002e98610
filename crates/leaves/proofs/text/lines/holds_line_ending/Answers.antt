-- `leaves::text::lines::holds_line_ending` meets its contract.
use borrow.Author.Rules.{rules}
use borrow.Author.Tests.{tests}
use Rattle.leaves.proofs.text.ChainLaws.{any-of}
use Rattle.leaves.proofs.text.LineTestLaws.{endings-past}
use Rattle.leaves.specs.Text.Bytes.{is_line_ending_byte}
use Rattle.leaves.proofs.text.lines.holds_line_ending.Goals as goal

pub returns : goal.returns
returns c = endings-past c.skip_passing.ensures (any-of is_line_ending_byte c.skip_passing.result.now c.any.ensures.ran (cc) (λ x b q k. search (rules, tests)))

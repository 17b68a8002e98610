-- `leaves::text::edges::leading_blanks` meets its contract.
use mathlib.Core.Bool.{not}
use borrow.Author.Rules.{rules}
use borrow.Author.Tests.{tests}
use Rattle.leaves.specs.Text.Bytes.{is_blank_byte}
use Rattle.leaves.proofs.text.ChainLaws.{first-of}
use Rattle.leaves.proofs.text.LineLaws.{led}
use Rattle.leaves.proofs.text.edges.leading_blanks.Goals as goal

pub returns : goal.returns
returns c = led c.args.s.now (first-of (λ b. not (is_blank_byte b)) c.args.s.now c.position.ensures.ran (cc) (λ x b q k. search (rules, tests)) c.unwrap_or.ensures)

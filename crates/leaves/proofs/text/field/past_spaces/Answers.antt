-- `leaves::text::field::past_spaces` meets its contract.
use mathlib.Core.Path.{◌∙◌}
use mathlib.Core.Bool.{not}
use mathlib.Core.Path.{◌≡◌}
use lib.Dec.{eqb}
use Rattle.std.specs.List.{position_or_len}
use borrow.Author.Rules.{rules}
use borrow.Author.Tests.{tests}
use Rattle.leaves.specs.Text.Bytes.{space}
use Rattle.leaves.proofs.text.ChainLaws.{first-of, tail-all}
use Rattle.leaves.proofs.text.FieldLaws.{spaces_cut}
use Rattle.leaves.proofs.text.field.past_spaces.Goals as goal

pub returns : goal.returns
returns c =
    let at : c.unwrap_or-at.result ≡ position_or_len (λ b. not (eqb b space)) c.args.s.now = first-of (λ b. not (eqb b space)) c.args.s.now c.position.ensures.ran (cc) (λ x b q k. search (rules, tests)) c.unwrap_or-at.ensures in
    tail-all c.args.s.now c.unwrap_or-at.result ∙ rw at (spaces_cut c.args.s.now)

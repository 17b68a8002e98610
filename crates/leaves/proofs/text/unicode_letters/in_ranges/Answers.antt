-- `leaves::text::unicode_letters::in_ranges` meets its contract.
use mathlib.Core.Path.{◌∙◌}
use borrow.Author.Rules.{rules}
use borrow.Author.Tests.{tests}
use Rattle.std.proofs.lemmas.Fn.{always_returns_same}
use Rattle.leaves.proofs.text.LetterRangeLaws.{side, found}
use Rattle.leaves.proofs.text.unicode_letters.in_ranges.Goals as goal

pub returns : goal.returns
returns c = c.is_ok.ensures.value ∙ found c.args.c c.args.ranges.now c.requires c.binary_search_by.result c.binary_search_by.ensures.bound (c.binary_search_by.ensures.position (side c.args.c) (always_returns_same _ _ _ (λ a r q k. search (rules, tests))))

-- `leaves::sheet::forest::skip` meets its contract.
use Rattle.leaves.proofs.sheet.TreeLaws.{skip-turn, skip-out, skip-end}
use native.Mathlib.Omega.{arith}
use mathlib.Core.Path.{◌≡◌, ◌∙◌}
use borrow.Author.Rules.{rules}
use Rattle.leaves.proofs.sheet.forest.skip.Goals as goal

pub returns-then-level_at-level : goal.returns-then-level_at-level
returns-then-level_at-level c = skip-out _ _ _ _ c.loop-i.invariant (search rules) c.level_at.ensures c.if-level_at-level.true

pub loop-i-preserved : goal.loop-i-preserved
loop-i-preserved c = skip-turn _ _ _ _ c.loop-i.invariant (search rules) c.level_at.ensures c.if-level_at-level.false

pub returns : goal.returns
returns c = let e : c.args.n ≡ c.loop-i.i = omega arith in e ∙ skip-end _ _ _ _ c.loop-i.invariant (omega arith)

-- `leaves::text::math::holds_backtick_dollar` meets its contract.
use mathlib.Core.Path.{◌≡◌}
use Rattle.leaves.specs.Text.Math.{holds_backtick_dollar}
use lib.ListN.{length}
use Rattle.leaves.proofs.text.math.holds_backtick_dollar.Given as goal

abbrev pub invariant-loop-rest : goal.invariant-loop-rest
invariant-loop-rest l = holds_backtick_dollar l.s ≡ holds_backtick_dollar l.rest

abbrev pub decreases-loop-rest : goal.decreases-loop-rest
decreases-loop-rest l = length l.rest

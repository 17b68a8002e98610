-- `leaves::text::math::holds_backtick_dollar` meets its contract.
use mathlib.Core.Path.{◌≡◌, ap, sym, ◌∙◌}
use lib.ListN.{drop}
use Rattle.leaves.proofs.text.ChainLaws.{tail-all}
use Rattle.leaves.proofs.text.MathLaws.{ticks-stop, ticks-first, ticks-second, ticks-end, ticks-leap}
use Rattle.leaves.specs.Text.Math.{holds_backtick_dollar}
use Rattle.leaves.proofs.text.math.holds_backtick_dollar.Goals as goal
use Rattle.leaves.proofs.text.math.holds_backtick_dollar.Goals.{else-first-eq-BACKTICK-via-then-first-eq-BACKTICK+else-second-eq-DOLLAR, else-first-eq-BACKTICK-via-else-first-eq-BACKTICK}

pub loop-rest-init : goal.loop-rest-init
loop-rest-init c = ticks-leap c.skip_passing-rest.ensures

pub returns-then-second-eq-DOLLAR : goal.returns-then-second-eq-DOLLAR
returns-then-second-eq-DOLLAR c = ticks-stop _ c.in-len2-up.len_at_least c.if-first-eq-BACKTICK.true c.if-second-eq-DOLLAR.true ∙ sym c.loop-rest.invariant

pub loop-rest-preserved-then-first-eq-BACKTICK-2 : goal.loop-rest-preserved-then-first-eq-BACKTICK-2
loop-rest-preserved-then-first-eq-BACKTICK-2 c =
    let rest = c.loop-rest.rest.now in
    let step : holds_backtick_dollar rest ≡ holds_backtick_dollar (drop 1 rest) =
    elim c.else-first-eq-BACKTICK.branch [
      | else-first-eq-BACKTICK-via-then-first-eq-BACKTICK+else-second-eq-DOLLAR w ↦ ticks-second rest c.in-len2-up.len_at_least w.if-second-eq-DOLLAR.false
      | else-first-eq-BACKTICK-via-else-first-eq-BACKTICK w ↦ ticks-first rest c.in-len2-up.len_at_least w.if-first-eq-BACKTICK.false
    ] in
    c.loop-rest.invariant ∙ step ∙ ap holds_backtick_dollar (sym (tail-all rest 1)) ∙ ticks-leap c.skip_passing-rest-then-first-eq-BACKTICK-2.ensures

pub loop-rest-preserved : goal.loop-rest-preserved
loop-rest-preserved c =
    let rest = c.loop-rest.rest.now in
    let step : holds_backtick_dollar rest ≡ holds_backtick_dollar (drop 1 rest) =
    elim c.else-first-eq-BACKTICK.branch [
      | else-first-eq-BACKTICK-via-then-first-eq-BACKTICK+else-second-eq-DOLLAR w ↦ ticks-second rest c.in-len2-up.len_at_least w.if-second-eq-DOLLAR.false
      | else-first-eq-BACKTICK-via-else-first-eq-BACKTICK w ↦ ticks-first rest c.in-len2-up.len_at_least w.if-first-eq-BACKTICK.false
    ] in
    c.loop-rest.invariant ∙ step ∙ ap holds_backtick_dollar (sym (tail-all rest 1))

pub returns : goal.returns
returns c = ticks-end _ c.in_default.len_below ∙ sym c.loop-rest.invariant

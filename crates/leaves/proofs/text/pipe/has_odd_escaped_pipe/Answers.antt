-- `leaves::text::pipe::has_odd_escaped_pipe` meets its contract.
use mathlib.Core.Path.{◌≡◌, refl, sym, ◌∙◌}
use mathlib.Core.Bool.{true, false, not, ◌&&◌}
use lib.Dec.{eqb}
use lib.ListN.{get_or}
use borrow.Author.Rules.{rules}
use Rattle.std.proofs.Common.{arith}
use Rattle.std.proofs.lemmas.Grind.{common_steps}
use Rattle.leaves.proofs.text.ChainLaws.{tail-all}
use Rattle.leaves.proofs.text.PipeLaws.{pipe-yes, pipe-no, pipe-end, pipe-leap}
use Rattle.leaves.specs.Text.Bytes.{pipe, backslash}
use Rattle.leaves.specs.Text.Pipe.{has_odd_escaped_pipe}
use Rattle.leaves.proofs.text.pipe.has_odd_escaped_pipe.Goals as goal

pub loop-rest-init : goal.loop-rest-init
unfolding has_odd_escaped_pipe
loop-rest-init c = pipe-leap false refl c.skip_passing-rest.ensures

pub returns-then-b-eq-PIPE : goal.returns-then-b-eq-PIPE
returns-then-b-eq-PIPE c =
    let yes : (eqb (get_or c.loop-rest.rest.now 0 0) pipe && c.loop-rest.odd) ≡ true = grind (arith, common_steps) in
    pipe-yes _ _ c.in-len1-up.len_at_least yes ∙ sym c.loop-rest.invariant

pub loop-rest-preserved-then-rest-eq0 : goal.loop-rest-preserved-then-rest-eq0
loop-rest-preserved-then-rest-eq0 c =
    let rest = c.loop-rest.rest.now in
    let no : (eqb (get_or rest 0 0) pipe && c.loop-rest.odd) ≡ false = grind (arith, common_steps) in
    let next : c.if-not-odd.odd ≡ (eqb (get_or rest 0 0) backslash && not c.loop-rest.odd) = grind (arith, common_steps) in
    c.loop-rest.invariant ∙ pipe-no _ _ c.in-len1-up.len_at_least no ∙ rw (← next, ← tail-all rest 1) (pipe-leap _ (search rules) c.skip_passing-rest-then-rest-eq0.ensures)

pub loop-rest-preserved : goal.loop-rest-preserved
loop-rest-preserved c =
    let rest = c.loop-rest.rest.now in
    let no : (eqb (get_or rest 0 0) pipe && c.loop-rest.odd) ≡ false = grind (arith, common_steps) in
    let next : c.if-not-odd.odd ≡ (eqb (get_or rest 0 0) backslash && not c.loop-rest.odd) = grind (arith, common_steps) in
    c.loop-rest.invariant ∙ pipe-no _ _ c.in-len1-up.len_at_least no ∙ rw (next, tail-all rest 1)

pub returns : goal.returns
returns c = pipe-end _ _ c.in_default.len_below ∙ sym c.loop-rest.invariant

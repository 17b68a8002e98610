-- `blocks::label::label_end` meets its contract.
use mathlib.Core.Path.{refl, ◌∙◌}
use Rattle.blocks.proofs.LabelLaws.{labelling-start, labelling-block, labelling-turn, labelling-end}
use Rattle.blocks.proofs.label.label_end.Goals as goal

pub loop-r-init : goal.loop-r-init
loop-r-init c = record { label = labelling-start; end = refl }

pub returns-then-is_block : goal.returns-then-is_block
returns-then-is_block c = c.loop-r.invariant.end ∙ labelling-block c.loop-r.invariant.label c.in-Some.ensures.some c.is_block.ensures c.if-is_block.true

pub loop-r-preserved : goal.loop-r-preserved
loop-r-preserved c = record { label = labelling-turn c.loop-r.invariant.label c.in-Some.ensures.some c.is_block.ensures c.if-is_block.false c.skip.ensures; end = refl }

pub returns : goal.returns
returns c = c.loop-r.invariant.end ∙ labelling-end c.loop-r.invariant.label c.in_default.ensures.none

-- `leaves::refusal::tags::lacks_tags` meets its contract.
use Rattle.std.proofs.Common.{◌+◌, ◌∙◌, refl, ne_eqb}
use Rattle.leaves.specs.Refusal.TagsPlaced.{tag_under}
use Rattle.leaves.proofs.refusal.TagLaws.{lacks-two, lacks-not}
use Rattle.leaves.proofs.refusal.tags.lacks_tags.Goals as goal
use Rattle.leaves.proofs.refusal.tags.lacks_tags.Goals.{then-tag_under, else-tag_under}

pub returns-after-tag_under : goal.returns-after-tag_under
returns-after-tag_under c =
    elim c.if-tag_under.branch [
      | then-tag_under w ↦ lacks-two _ _ c.requires.0.placed c.args.i c.kind_at.ensures c.level_at-level.ensures c.tag_under.ensures w.tag_under-then-tag_under.ensures c.if-kind_at-eq-HTML_CONTAINER.true (rw w.if-tag_under.true w.result-is)
      | else-tag_under w ↦ lacks-two _ _ c.requires.0.placed c.args.i {u = tag_under c.args.sheet.now c.args.n (c.args.i + 2) c.level_at-level.result} c.kind_at.ensures c.level_at-level.ensures c.tag_under.ensures refl c.if-kind_at-eq-HTML_CONTAINER.true (rw w.if-tag_under.false (w.result-is ∙ w.if-tag_under.false))
    ]

pub returns-else-kind_at-eq-HTML_CONTAINER : goal.returns-else-kind_at-eq-HTML_CONTAINER
returns-else-kind_at-eq-HTML_CONTAINER c = ne_eqb _ _ c.if-kind_at-eq-HTML_CONTAINER.false ∙ lacks-not _ _ c.requires.0.placed c.args.i c.kind_at.ensures c.if-kind_at-eq-HTML_CONTAINER.false

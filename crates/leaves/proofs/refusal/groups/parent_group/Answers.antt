-- `leaves::refusal::groups::parent_group` meets its contract.
use borrow.Author.Rules.{rules}
use Rattle.leaves.proofs.refusal.GroupLaws.{parent-inlines, parent-zero, parent-other}
use Rattle.leaves.proofs.refusal.groups.parent_group.Goals as goal
use Rattle.leaves.proofs.refusal.groups.parent_group.Goals.{else-kind-eq-HTML_CONTAINER-via-then-kind-eq-HTML_CONTAINER+else-a-ne0, else-kind-eq-HTML_CONTAINER-via-else-kind-eq-HTML_CONTAINER}

pub returns-then-a-ne0 : goal.returns-then-a-ne0
returns-then-a-ne0 c = parent-inlines c.args.kind c.args.a c.if-kind-eq-HTML_CONTAINER.true c.if-a-ne0.true

pub returns-else-kind-eq-HTML_CONTAINER : goal.returns-else-kind-eq-HTML_CONTAINER
returns-else-kind-eq-HTML_CONTAINER c =
    elim c.else-kind-eq-HTML_CONTAINER.branch [
      | else-kind-eq-HTML_CONTAINER-via-then-kind-eq-HTML_CONTAINER+else-a-ne0 w ↦ parent-zero c.args.groups.now c.args.kind (search rules) (search rules) c.args.a (search rules)
      | else-kind-eq-HTML_CONTAINER-via-else-kind-eq-HTML_CONTAINER w ↦ parent-other c.args.groups.now c.args.kind (search rules) (search rules) c.args.a (search rules)
    ]

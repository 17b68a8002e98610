-- Leaf and container directives, up to the walk of their blocks. `path` is the directive's own.
use Rattle.std.specs.Prelude.{ℕ, List, if◌then◌else◌}
use Rattle.leaves.specs.Sheet.Kinds.{is_block}
use Rattle.leaves.specs.Sheet.Forest.{Forest, no_tree, tree}
use Rattle.leaves.specs.Report.Entries.{Entry, ◌⊕◌}
use Rattle.leaves.specs.declared.sheet.records.Span.{Span}
use Rattle.leaves.specs.declared.sheet.records.Text.{Text}
use Rattle.leaves.specs.Report.Rules
use Rattle.inlines.specs.Single.{validate_directive_name}
use Rattle.inlines.specs.Attribute.{validate_directive_attributes}
use Rattle.inlines.specs.Depth.{validate_one_line}
use Rattle.inlines.specs.Nodes.{validate_inlines}

-- The children of a directive before its blocks: its attributes and the inlines of its label. Document 01:
-- "Directives: attributes, then inlines, then (container only) blocks."
unfoldable pub before_blocks : Forest → Forest
before_blocks no_tree = no_tree
before_blocks (tree r kids rest) =
    let later = tree r kids (before_blocks rest) in
    if is_block r.kind then no_tree else later

-- A directive up to the walk of its blocks: 54, 55, the label's inlines, and `rule` for each break in the label. 55
-- passes over the inlines, and the last two pass over the attributes.
unfoldable pub validate_directive : List ℕ → List ℕ → ℕ → Span → Text → Forest → List Entry
validate_directive bytes path rule span name kids =
    validate_directive_name bytes path span name
    ⊕ validate_directive_attributes bytes path (before_blocks kids)
    ⊕ validate_inlines bytes path (before_blocks kids)
    ⊕ validate_one_line rule path (before_blocks kids)

-- `validate_leaf_directive`: 22 for breaks
abbrev pub validate_leaf_directive : List ℕ → List ℕ → Span → Text → Forest → List Entry
validate_leaf_directive bytes path span name kids =
    validate_directive bytes path Rules.break_in_leaf_label span name kids

-- `validate_container_directive`, up to the walk of its blocks: 23 for breaks
abbrev pub validate_container_directive : List ℕ → List ℕ → Span → Text → Forest → List Entry
validate_container_directive bytes path span name kids =
    validate_directive bytes path Rules.break_in_container_label span name kids

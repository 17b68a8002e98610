-- The walk of validate.rs over inlines. Each definition has its function's name and gives its entries in its order.
-- The inlines are trees of a forest; trees of another sort (attributes, tags, blocks) are passed over.
-- `path` is the path of the enclosing block or cell. The definitions of `Content`, `Own` and `Node` can be used from
-- here too.
use Rattle.std.specs.Prelude.{ℕ, List, [], if◌then◌else◌}
use Rattle.leaves.specs.Sheet.Kinds.{no_kind, is_inline}
use Rattle.leaves.specs.Sheet.Forest.{Forest, no_tree, tree}
use Rattle.leaves.specs.Report.Entries.{Entry, ◌⊕◌}
use Rattle.leaves.specs.declared.sheet.records.Rec.{Rec}
use Rattle.inlines.specs.Single.{validate_siblings}
unfoldable pub use Rattle.inlines.specs.Content.{inlines_of, no_inline, all_empty, without_empty_texts}
unfoldable pub use Rattle.inlines.specs.Content.{starts_with_whitespace, ends_with_whitespace}
unfoldable pub use Rattle.inlines.specs.Content.{is_one_joined, holds_joined, break_entries, final_break}
unfoldable pub use Rattle.inlines.specs.Own.{validate_inline_values}
unfoldable pub use Rattle.inlines.specs.Node.{validate_text_directive, validate_emphasis_container, validate_inline}

-- One inline: the entries of it and the inline before it, whose kind is `before`; then its own; then `below`, those
-- of its children. Every kind that has children walks them last.
unfoldable pub validate_node : List ℕ → List ℕ → ℕ → Rec → Forest → List Entry → List Entry
validate_node bytes path before r kids below =
    if is_inline r.kind
    then validate_siblings path r.span before r.kind r.a ⊕ validate_inline bytes path r kids ⊕ below
    else []

-- `validate_inline_nodes`. `before` is the kind of the inline before these trees, `no_kind` where there is none.
unfoldable pub validate_inline_nodes_after : List ℕ → List ℕ → ℕ → Forest → List Entry
validate_inline_nodes_after bytes path before no_tree = []
validate_inline_nodes_after bytes path before (tree r kids rest) =
    let below = validate_inline_nodes_after bytes path no_kind kids in
    validate_node bytes path before r kids below
    ⊕ validate_inline_nodes_after bytes path (if is_inline r.kind then r.kind else before) rest

unfoldable pub validate_inline_nodes : List ℕ → List ℕ → Forest → List Entry
validate_inline_nodes bytes path f = validate_inline_nodes_after bytes path no_kind f

-- `validate_inlines`: 30, then the nodes
unfoldable pub validate_inlines : List ℕ → List ℕ → Forest → List Entry
validate_inlines bytes path f = final_break path f ⊕ validate_inline_nodes bytes path f

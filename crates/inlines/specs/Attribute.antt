-- The entries that validate.rs reports for the attributes of a directive, in its order.
-- `path` is the path of the enclosing block or cell.
use Rattle.std.specs.Prelude.{ℕ, List, []}
use Rattle.leaves.specs.Sheet.Records.{no_span}
use Rattle.leaves.specs.Sheet.Forest.{Forest, no_tree, tree}
use Rattle.leaves.specs.Report.Entries.{Entry, list_if, ◌⊕◌}
use Rattle.leaves.specs.Report.Rules
use Rattle.inlines.specs.Values.{is_bad_attribute}

-- `validate_directive_attributes`: 55 for each attribute with a bad name. Document 01: "for rule 55 it is the
-- attribute, and the entry has no span".
unfoldable pub validate_directive_attributes : List ℕ → List ℕ → Forest → List Entry
validate_directive_attributes bytes path no_tree = []
validate_directive_attributes bytes path (tree r kids rest) =
    list_if (is_bad_attribute bytes r) Rules.attribute_name no_span path
    ⊕ validate_directive_attributes bytes path rest

-- The entries that validate.rs reports for the text of a link, in its order.
-- `path` is the path of the enclosing block or cell.
use Rattle.std.specs.Prelude.{ℕ, true, List, [], if◌then◌else◌}
use Rattle.leaves.specs.Sheet.Forest.{Forest, no_tree, tree}
use Rattle.leaves.specs.Report.Entries.{Entry, list_if, ◌⊕◌}
use Rattle.leaves.specs.Report.Rules
use Rattle.leaves.specs.Sheet.Classes.{is_link}

-- `validate_link_text`: 42 for each link that is not inside one already reported
unfoldable pub validate_link_text : List ℕ → Forest → List Entry
validate_link_text path no_tree = []
validate_link_text path (tree r kids rest) =
    let inside = validate_link_text path kids in
    (if is_link r.kind then list_if true Rules.link_in_link r.span path else inside) ⊕ validate_link_text path rest

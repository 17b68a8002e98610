-- The entries that a block reports by its own record, and a heading's inlines. Each definition has the name of its
-- function in validate.rs and gives its entries in its order. `path` is the block's own.
use Rattle.std.specs.Prelude.{ℕ, not, ◌&&◌, ◌||◌, List, eqb, ltb}
use Rattle.leaves.specs.Text.Edges.{has_blank_edge_line}
use Rattle.leaves.specs.Text.Name.{is_blank_identifier}
use Rattle.leaves.specs.Text.Title.{is_alert_title}
use Rattle.leaves.specs.Sheet.Texts.{text_of}
use Rattle.leaves.specs.Sheet.Forest.{Forest}
use Rattle.leaves.specs.Report.Entries.{Entry, list_if, ◌⊕◌}
use Rattle.leaves.specs.declared.sheet.records.Span.{Span}
use Rattle.leaves.specs.declared.sheet.records.Text.{Text}
use Rattle.leaves.specs.Report.Rules
use Rattle.inlines.specs.Single.{validate_destination}
use Rattle.inlines.specs.Nodes.{validate_inlines}
use Rattle.leaves.specs.Sheet.Empty.{is_empty}

-- `validate_heading`: 10, then the inlines
unfoldable pub validate_heading : List ℕ → List ℕ → Span → ℕ → Forest → List Entry
validate_heading bytes path span depth kids =
    list_if (eqb depth 0 || ltb 6 depth) Rules.heading_depth span path ⊕ validate_inlines bytes path kids

-- `validate_alert`: 11, where there is a title (A is 1)
unfoldable pub validate_alert : List ℕ → List ℕ → Span → ℕ → Text → List Entry
validate_alert bytes path span a title =
    list_if (eqb a 1 && not (is_alert_title (text_of bytes title))) Rules.alert_title span path

-- `validate_code_block`: 26, where there is an info string (B is 1); 27, for indented code (A is 1)
unfoldable pub validate_code_block : List ℕ → List ℕ → Span → ℕ → ℕ → Text → Text → List Entry
validate_code_block bytes path span a b value info =
    list_if (eqb b 1 && is_empty info) Rules.empty_info span path
    ⊕ list_if (eqb a 1 && has_blank_edge_line (text_of bytes value)) Rules.blank_edge_in_code span path

-- `validate_definition`: 24, 25
unfoldable pub validate_definition : List ℕ → List ℕ → Span → ℕ → Text → Text → List Entry
validate_definition bytes path span a identifier destination =
    list_if (is_blank_identifier (text_of bytes identifier)) Rules.blank_definition span path
    ⊕ validate_destination path span a destination

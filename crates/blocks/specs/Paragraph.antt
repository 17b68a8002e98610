-- A paragraph. `path` is its own.
use Rattle.std.specs.Prelude.{ℕ, List}
use Rattle.leaves.specs.Sheet.Forest.{Forest}
use Rattle.leaves.specs.Report.Entries.{Entry, list_if, ◌⊕◌}
use Rattle.leaves.specs.declared.sheet.records.Span.{Span}
use Rattle.leaves.specs.Report.Rules
use Rattle.inlines.specs.Nodes.{all_empty, validate_inlines}

-- the arm of `validate_block` for a paragraph: 2, then its inlines
unfoldable pub validate_paragraph : List ℕ → List ℕ → Span → Forest → List Entry
validate_paragraph bytes path span kids =
    list_if (all_empty kids) Rules.empty_paragraph span path
    ⊕ validate_inlines bytes path kids

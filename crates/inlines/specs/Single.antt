-- The functions of validate.rs that look at the own values of one record, or at one inline and the kind of the inline
-- before it. Each definition has its function's name and gives its entries in its order.
-- `path` is the path of the enclosing block or cell.
use Rattle.std.specs.Prelude.{ℕ, not, ◌&&◌, List, eqb}
use Rattle.leaves.specs.Text.Name.{is_directive_name}
use Rattle.leaves.specs.Text.Punctuation.{is_ascii_punctuation}
use Rattle.leaves.specs.Text.UnicodeLetters.{is_tag_name}
use Rattle.leaves.specs.Sheet.Kinds.{delete}
use Rattle.leaves.specs.Sheet.Texts.{text_of}
use Rattle.leaves.specs.Report.Entries.{Entry, list_if, ◌⊕◌}
use Rattle.leaves.specs.declared.sheet.records.Span.{Span}
use Rattle.leaves.specs.declared.sheet.records.Text.{Text}
use Rattle.leaves.specs.Report.Rules
use Rattle.leaves.specs.Sheet.Empty.{is_empty}
use Rattle.leaves.specs.Sheet.Classes.{is_break, is_plain_break}

-- `validate_destination`: 25. A is 0 for a bare destination.
unfoldable pub validate_destination : List ℕ → Span → ℕ → Text → List Entry
validate_destination path span a destination =
    list_if (eqb a 0 && is_empty destination) Rules.empty_bare_destination span path

-- the tests `identifier.is_empty()` and `target.is_empty()` of the match: `rule` is 32, 33, 34 or 36
unfoldable pub validate_identifier : List ℕ → ℕ → Span → Text → List Entry
validate_identifier path rule span identifier = list_if (is_empty identifier) rule span path

-- `validate_escape`: 43
unfoldable pub validate_escape : List ℕ → Span → ℕ → List Entry
validate_escape path span a = list_if (not (is_ascii_punctuation a)) Rules.escaped_value span path

-- `validate_directive_name`: 54
unfoldable pub validate_directive_name : List ℕ → List ℕ → Span → Text → List Entry
validate_directive_name bytes path span name =
    list_if (not (is_directive_name (text_of bytes name))) Rules.directive_name span path

-- The arm of `validate_inline_nodes` for a tag: 56. Document 02: "by `is_tag_name` in `src/unicode_letters.rs`: a
-- letter, then letters, numbers, `/`, `_` or `-`. An empty name fails."
unfoldable pub validate_tag : List ℕ → List ℕ → Span → Text → List Entry
validate_tag bytes path span name = list_if (not (is_tag_name (text_of bytes name))) Rules.tag_name span path

-- `validate_siblings`: 37, 38. `before` is the kind of the inline before, `no_kind` where there is none.
unfoldable pub validate_siblings : List ℕ → Span → ℕ → ℕ → ℕ → List Entry
validate_siblings path span before kind a =
    list_if (is_break before && is_plain_break kind a) Rules.break_after_break span path
    ⊕ list_if (eqb before delete && eqb kind delete) Rules.adjacent_strikethroughs span path

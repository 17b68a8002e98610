-- The functions of validate.rs that look at the value of a text, code or math. Each definition has its function's
-- name and gives its entries in its order. `path` is the path of the enclosing block or cell.
use Rattle.std.specs.Prelude.{ℕ, ◌&&◌, List, eqb}
use Rattle.leaves.specs.Text.Lines.{holds_line_ending}
use Rattle.leaves.specs.Text.Math.{holds_backtick_dollar}
use Rattle.leaves.specs.Sheet.Texts.{text_of}
use Rattle.leaves.specs.Report.Entries.{Entry, list_if, ◌⊕◌}
use Rattle.leaves.specs.declared.sheet.records.Span.{Span}
use Rattle.leaves.specs.declared.sheet.records.Text.{Text}
use Rattle.leaves.specs.Report.Rules
use Rattle.leaves.specs.Sheet.Empty.{is_empty}

-- the arm of `validate_inline_nodes` for a text: 31
unfoldable pub validate_text : List ℕ → List ℕ → Span → Text → List Entry
validate_text bytes path span value =
    list_if (holds_line_ending (text_of bytes value)) Rules.line_ending_in_text span path

-- `validate_code_inline`: 44, 45
unfoldable pub validate_code_inline : List ℕ → List ℕ → Span → Text → List Entry
validate_code_inline bytes path span value =
    list_if (is_empty value) Rules.empty_code span path
    ⊕ list_if (holds_line_ending (text_of bytes value)) Rules.line_ending_in_code span path

-- `validate_math_inline`: 46; then 47 for a dollar fence (A is 0) without a dollar (B is 0), or 48 for the code form
-- (A is 1)
unfoldable pub validate_math_inline : List ℕ → List ℕ → Span → ℕ → ℕ → Text → List Entry
validate_math_inline bytes path span a b value =
    list_if (is_empty value) Rules.empty_math span path
    ⊕ list_if (eqb a 0 && eqb b 0) Rules.math_without_fence span path
    ⊕ list_if (eqb a 1 && holds_backtick_dollar (text_of bytes value)) Rules.backtick_dollar_in_math span path

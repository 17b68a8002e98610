-- What an item reports because of its number: `validate_item_number` of validate.rs. `path` is the item's own.
use Rattle.std.specs.Prelude.{Option, Some, None, ℕ, not, ◌&&◌, List, [], eqb, ltb, if◌then◌else◌}
use Rattle.leaves.specs.Refusal.Limits.{most_item_number}
use Rattle.leaves.specs.Report.Entries.{Entry, list_if, ◌⊕◌}
use Rattle.leaves.specs.declared.sheet.records.Span.{Span}
use Rattle.leaves.specs.Report.Rules

-- Document 01: "B: .. number present"; "C: .. item number (0 when absent)"
unfoldable pub item_number : ℕ → ℕ → Option ℕ
item_number b c = if eqb b 1 then Some c else None

-- `validate_item_number`: 49, or 50. Document 01: "absent, rules 49 and 50 pass". `ordered` is the list's A: 1 for an
-- ordered list.
unfoldable pub validate_item_number : List ℕ → Span → ℕ → Option ℕ → List Entry
validate_item_number path span ordered None = []
validate_item_number path span ordered (Some number) =
    list_if (not (eqb ordered 1)) Rules.bullet_number span path
    ⊕ list_if (eqb ordered 1 && ltb most_item_number number) Rules.long_number span path

-- The functions of validate.rs that look at every record of some trees. Each definition has its function's name and
-- gives its entries in its order. `path` is the path of the enclosing block or cell.
use Rattle.std.specs.Prelude.{ℕ, List, flat_map}
use Rattle.leaves.specs.Sheet.Forest.{Forest, records_in}
use Rattle.leaves.specs.Report.Entries.{Entry, list_if}
use Rattle.leaves.specs.declared.sheet.records.Rec.{Rec}
use Rattle.leaves.specs.Report.Rules
use Rattle.inlines.specs.Values.{is_unwritable}
use Rattle.leaves.specs.Sheet.Classes.{is_break}

-- the entries of each record of the trees, in the sheet's order
unfoldable pub each_record : (Rec → List Entry) → Forest → List Entry
each_record entries f = flat_map entries (records_in f)

-- `validate_cell_values`: 21
unfoldable pub validate_cell_values : List ℕ → List ℕ → Forest → List Entry
validate_cell_values bytes path f = each_record (λ r. list_if (is_unwritable bytes r) Rules.pipe_in_cell r.span path) f

-- `validate_one_line`: `rule` is 20, 22 or 23
unfoldable pub validate_one_line : ℕ → List ℕ → Forest → List Entry
validate_one_line rule path f = each_record (λ r. list_if (is_break r.kind) rule r.span path) f

-- `validate_table`: a table with its rows and cells. `path` is the table's own; rows and cells count from 0.
use Rattle.std.specs.Prelude.{ℕ, suc, true, not, List, [], ◌∷◌, ◌++◌, eqb, if◌then◌else◌}
use Rattle.leaves.specs.Sheet.Forest.{Forest, no_tree, tree, count_trees}
use Rattle.leaves.specs.Report.Entries.{Entry, list_if, ◌⊕◌}
use Rattle.leaves.specs.declared.sheet.records.Span.{Span}
use Rattle.leaves.specs.Report.Rules
use Rattle.inlines.specs.Depth.{validate_cell_values, validate_one_line}
use Rattle.inlines.specs.Nodes.{validate_inlines}

-- one cell: its inlines, then 21, then 20
unfoldable pub validate_cell : List ℕ → List ℕ → Forest → List Entry
validate_cell bytes path kids =
    validate_inlines bytes path kids
    ⊕ validate_cell_values bytes path kids
    ⊕ validate_one_line Rules.break_in_cell path kids

-- the cells of a row, the first of them the k-th
unfoldable pub validate_cells : List ℕ → List ℕ → ℕ → Forest → List Entry
validate_cells bytes path k no_tree = []
validate_cells bytes path k (tree r kids rest) =
    validate_cell bytes (path ++ k ∷ []) kids
    ⊕ validate_cells bytes path (suc k) rest

-- the rows of a table whose header has `width` cells, the first of them the k-th: for each 19, then its cells
unfoldable pub validate_rows : List ℕ → List ℕ → ℕ → ℕ → Forest → List Entry
validate_rows bytes path width k no_tree = []
validate_rows bytes path width k (tree r kids rest) =
    list_if (not (eqb (count_trees kids) width)) Rules.row_width r.span (path ++ k ∷ [])
    ⊕ validate_cells bytes (path ++ k ∷ []) 0 kids
    ⊕ validate_rows bytes path width (suc k) rest

-- how many cells the header row has
unfoldable pub header_width : Forest → ℕ
header_width no_tree = 0
header_width (tree r kids rest) = count_trees kids

-- 16 alone; or 17, 18 and the rows. `a` is the table's A, its alignment count.
unfoldable pub validate_table : List ℕ → List ℕ → Span → ℕ → Forest → List Entry
validate_table bytes path span a rows =
    if eqb (count_trees rows) 0
    then list_if true Rules.table_without_row span path
    else (list_if (eqb (header_width rows) 0) Rules.table_without_cell span path
    ⊕ list_if (not (eqb a (header_width rows))) Rules.alignment_count span path
    ⊕ validate_rows bytes path (header_width rows) 0 rows)

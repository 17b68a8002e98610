-- A footnote definition, up to the walk of its blocks. `path` is its own.
-- All that stands under it is a block. Document 01: "blocks under the sheet, quote, alert, item and footnote
-- definition".
use Rattle.std.specs.Prelude.{ℕ, suc, true, ◌&&◌, ◌||◌, List, [], ◌∷◌, ◌++◌, eqb}
use Rattle.std.specs.Prelude.{if◌then◌else◌}
use Rattle.leaves.specs.Sheet.Kinds.{blank_line}
use Rattle.leaves.specs.Sheet.Forest.{Forest, no_tree, tree, count_trees}
use Rattle.leaves.specs.Report.Entries.{Entry, list_if, ◌⊕◌}
use Rattle.leaves.specs.declared.sheet.records.Span.{Span}
use Rattle.leaves.specs.declared.sheet.records.Text.{Text}
use Rattle.leaves.specs.Report.Rules
use Rattle.leaves.specs.Sheet.Empty.{is_empty}

-- 4 at a blank line that is the first block, or else at one that is the last. k blocks stand before these trees.
unfoldable pub blank_line_at : List ℕ → ℕ → Forest → List Entry
blank_line_at path k no_tree = []
blank_line_at path k (tree r kids rest) =
    let later = blank_line_at path (suc k) rest in
    if eqb r.kind blank_line && (eqb k 0 || eqb (count_trees rest) 0)
    then list_if true Rules.blank_line_in_footnote r.span (path ++ k ∷ [])
    else later

-- 3, then 4. Document 01: "rule 4 reports once though both ends are blank".
unfoldable pub validate_footnote_definition : List ℕ → Span → Text → Forest → List Entry
validate_footnote_definition path span identifier kids =
    list_if (is_empty identifier) Rules.empty_footnote_definition span path
    ⊕ blank_line_at path 0 kids

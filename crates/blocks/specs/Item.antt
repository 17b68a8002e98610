-- What an item reports because of the blocks that it holds, before the walk of them. A definition has the name of its
-- function in validate.rs. `path` is the item's own.
-- All that stands under an item is a block. Document 01: "blocks under the sheet, quote, alert, item and footnote
-- definition".
use Rattle.std.specs.Prelude.{ℕ, suc, Bool, false, not, ◌&&◌, List, [], ◌∷◌, ◌++◌, eqb}
use Rattle.std.specs.Prelude.{if◌then◌else◌}
use Rattle.leaves.specs.Sheet.Kinds.{paragraph, definition, blank_line}
use Rattle.leaves.specs.Sheet.Forest.{Forest, no_tree, tree, count_trees}
use Rattle.leaves.specs.Report.Entries.{Entry, list_if, ◌⊕◌}
use Rattle.leaves.specs.declared.sheet.records.Span.{Span}
use Rattle.leaves.specs.Report.Rules

-- One block of an item: where it is a blank line (`blank`), 51, or else 52, or else 53. `first`: it is the item's first
-- block. `last`: it is the last block of the list's last item.
unfoldable pub validate_blank_line : List ℕ → Span → Bool → Bool → Bool → Bool → List Entry
validate_blank_line path span blank tight first last =
    list_if (blank && tight) Rules.blank_line_in_tight_list span path
    ⊕ list_if (blank && not tight && first) Rules.blank_line_first span path
    ⊕ list_if (blank && not tight && not first && last) Rules.blank_line_last span path

-- `validate_item_blank_lines`. `last`: the item is the list's last. k blocks stand before these trees.
unfoldable pub validate_item_blank_lines : List ℕ → Bool → Bool → ℕ → Forest → List Entry
validate_item_blank_lines path tight last k no_tree = []
validate_item_blank_lines path tight last k (tree r kids rest) =
    let blank = eqb r.kind blank_line in
    validate_blank_line (path ++ k ∷ []) r.span blank tight (eqb k 0) (last && eqb (count_trees rest) 0)
    ⊕ validate_item_blank_lines path tight last (suc k) rest

-- the first block that is not a definition is a paragraph with a child
unfoldable pub opens_with_paragraph : Forest → Bool
opens_with_paragraph no_tree = false
opens_with_paragraph (tree r kids rest) =
    let later = opens_with_paragraph rest in
    if eqb r.kind definition then later else eqb r.kind paragraph && not (eqb (count_trees kids) 0)

-- `validate_task_item`: 14, where the item has a checkbox (A is not 0)
unfoldable pub validate_task_item : List ℕ → Span → ℕ → Forest → List Entry
validate_task_item path span checked kids =
    list_if (not (eqb checked 0) && not (opens_with_paragraph kids)) Rules.task_item span path

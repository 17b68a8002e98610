-- `validate_list`, up to the walk of its items. `path` is the list's own.
use Rattle.std.specs.Prelude.{ℕ, suc, Bool, false, not, ◌&&◌, List, eqb, ltb, if◌then◌else◌}
use Rattle.leaves.specs.Sheet.Kinds.{blank_line}
use Rattle.leaves.specs.Sheet.Forest.{Forest, no_tree, tree, count_trees}
use Rattle.leaves.specs.Report.Entries.{Entry, list_if, ◌⊕◌}
use Rattle.leaves.specs.declared.sheet.records.Span.{Span}
use Rattle.leaves.specs.Report.Rules

-- how many blocks are not blank lines
unfoldable pub count_full : Forest → ℕ
count_full no_tree = 0
count_full (tree r kids rest) = if eqb r.kind blank_line then count_full rest else suc (count_full rest)

-- there is exactly one item, and it holds at most one block beside blank lines
unfoldable pub holds_one_block : Forest → Bool
holds_one_block no_tree = false
holds_one_block (tree r kids rest) = eqb (count_trees rest) 0 && ltb (count_full kids) 2

-- 12; 13, where the list is not tight (C is not 1)
unfoldable pub validate_list : List ℕ → Span → ℕ → Forest → List Entry
validate_list path span tight kids =
    list_if (eqb (count_trees kids) 0) Rules.empty_list span path
    ⊕ list_if (not (eqb tight 1) && holds_one_block kids) Rules.loose_list span path

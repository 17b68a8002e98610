-- The walk of validate.rs over blocks, and the whole list of a sheet. The 13 messages that stay dropped are left out
-- (document 01 drops 14; document 02 brings back the tag's).
-- A path has an index for each block, item, row and cell from the sheet down. Document 01: "Path indices count blocks,
-- items, rows and cells only."
use Rattle.std.specs.Prelude.{ℕ, suc, Bool, List, [], ◌∷◌, ◌++◌, eqb, if◌then◌else◌}
use Rattle.leaves.specs.Sheet.Kinds.{is_block, list}
use Rattle.leaves.specs.Sheet.Forest.{Forest, no_tree, tree, count_trees, forest_of}
use Rattle.leaves.specs.Report.Entries.{Entry, ◌⊕◌}
use Rattle.leaves.specs.declared.sheet.records.Rec.{Rec}
use Rattle.blocks.specs.declared.before.Before.{Before}
use Rattle.blocks.specs.Before.{no_block, before_next, validate_taken_block}
use Rattle.blocks.specs.Block.{validate_own}
use Rattle.blocks.specs.Holds.{holds_blocks}
use Rattle.blocks.specs.Item.{validate_item_blank_lines, validate_task_item}
use Rattle.blocks.specs.Number.{item_number, validate_item_number}

-- `validate_block`: what a block reports, and then the entries of its items or of its blocks. `items` and `blocks` are
-- what the two walks list for its children.
unfoldable pub validate_block : List ℕ → List ℕ → Rec → Forest → List Entry → List Entry → List Entry
validate_block bytes path r kids items blocks =
    validate_own bytes path r kids
    ⊕ (if eqb r.kind list then items else if holds_blocks r.kind r.a then blocks else [])

-- One item. `ordered` and `tight` are the list's A and C: 1 for an ordered list, and 1 for a tight one. `last`: the
-- item is the list's last. `blocks` are the entries of its blocks.
unfoldable pub validate_item : List ℕ → ℕ → ℕ → Bool → Rec → Forest → List Entry → List Entry
validate_item path ordered tight last r kids blocks =
    validate_item_number path r.span ordered (item_number r.b r.c)
    ⊕ validate_item_blank_lines path (eqb tight 1) last 0 kids
    ⊕ validate_task_item path r.span r.a kids
    ⊕ blocks

unfoldable mutual
  -- `validate_blocks`: the blocks among the trees, the first of them the k-th. `before` is the block before them. Trees
  -- of another sort (tags, attributes, a label's inlines) are passed over.
  pub validate_blocks : List ℕ → List ℕ → ℕ → Before → Forest → List Entry
  validate_blocks bytes path k before no_tree = []
  validate_blocks bytes path k before (tree r kids rest) =
      let items = validate_list_items bytes (path ++ k ∷ []) 0 r.a r.c kids in
      let blocks = validate_blocks bytes (path ++ k ∷ []) 0 no_block kids in
      let later = validate_blocks bytes path (suc k) (before_next before r.kind r.a r.b) rest in
      let passed = validate_blocks bytes path k before rest in
      if is_block r.kind
      then (validate_taken_block (path ++ k ∷ []) r.span before r.kind r.a r.b
      ⊕ validate_block bytes (path ++ k ∷ []) r kids items blocks
      ⊕ later)
      else passed

  -- the items of a list, the first of them the k-th
  pub validate_list_items : List ℕ → List ℕ → ℕ → ℕ → ℕ → Forest → List Entry
  validate_list_items bytes path k ordered tight no_tree = []
  validate_list_items bytes path k ordered tight (tree r kids rest) =
      let blocks = validate_blocks bytes (path ++ k ∷ []) 0 no_block kids in
      let later = validate_list_items bytes path (suc k) ordered tight rest in
      validate_item (path ++ k ∷ []) ordered tight (eqb (count_trees rest) 0) r kids blocks ⊕ later

-- `validate_document`: the whole list of a sheet and its text
unfoldable pub validate_document : List ℕ → List ℕ → List Entry
validate_document w bytes = validate_blocks bytes [] 0 no_block (forest_of w)

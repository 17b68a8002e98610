-- Placement (refusal 6).
-- Document 01: "Children: blocks under the sheet, quote, alert, item and footnote definition; items under list; rows,
-- then cells; inlines under paragraph, heading, cell and what `Inline::children` lists. Directives: attributes, then
-- inlines, then (container only) blocks. HTML container: opening tag, closing tag, content of its sort."
use Rattle.std.specs.Prelude.{ℕ, suc, ◌+◌, Bool, not, ◌&&◌, ◌||◌, List, [], ◌∷◌, eqb, ltb, leb}
use Rattle.std.specs.Prelude.{if◌then◌else◌}
use Rattle.leaves.specs.Sheet.Kinds.{html_tag}
use Rattle.leaves.specs.Sheet.Siblings.{fold_siblings}
use Rattle.leaves.specs.Refusal.Groups.{parent_of_blocks, parent_of_items, parent_of_rows, parent_of_cells}
use Rattle.leaves.specs.Refusal.Groups.{parent_of_inlines}
use Rattle.leaves.specs.Refusal.Groups.{parent_of_label, parent_of_label_and_blocks}
use Rattle.leaves.specs.Refusal.Groups.{parent_of_tags_and_blocks, parent_of_tags_and_inlines}
use Rattle.leaves.specs.Refusal.Groups.{block_group, item_group, row_group, cell_group}
use Rattle.leaves.specs.Refusal.Groups.{tag_group, attribute_group, inline_group, parent_group, child_group}
use Rattle.leaves.specs.declared.refusal.places.Open.{Open}

-- ---- what a parent holds: the groups of children, in the order in which they stand under it
unfoldable pub holds : ℕ → List ℕ
holds group =
    -- "blocks under the sheet, quote, alert, item and footnote definition"
    if eqb group parent_of_blocks
    then block_group ∷ []
    -- "items under list"
    else if eqb group parent_of_items
    then item_group ∷ []
    -- "rows, then cells": rows under table
    else if eqb group parent_of_rows
    then row_group ∷ []
    -- and cells under row
    else if eqb group parent_of_cells
    then cell_group ∷ []
    -- "inlines under paragraph, heading, cell and what `Inline::children` lists"
    else if eqb group parent_of_inlines
    then inline_group ∷ []
    -- "Directives: attributes, then inlines"
    else if eqb group parent_of_label
    then attribute_group ∷ inline_group ∷ []
    -- "then (container only) blocks"
    else if eqb group parent_of_label_and_blocks
    then attribute_group ∷ inline_group ∷ block_group ∷ []
    -- "HTML container: opening tag, closing tag, content of its sort": blocks
    else if eqb group parent_of_tags_and_blocks
    then tag_group ∷ block_group ∷ []
    -- or inlines
    else if eqb group parent_of_tags_and_inlines
    then tag_group ∷ inline_group ∷ []
    -- every other kind has no children
    else []

-- the place of a group in a list whose first has the place `first`; 0 where the group is not in the list
unfoldable pub place_in : ℕ → List ℕ → ℕ → ℕ
place_in first [] child = 0
place_in first (group ∷ groups) child =
    let later = place_in (suc first) groups child in
    if eqb child group then first else later

-- the place of a kind under a group of parents, from 1 on; 0 where it is not allowed there
unfoldable pub place_of : ℕ → ℕ → ℕ
place_of group kind = place_in 1 (holds group) (child_group kind)

-- ---- what stands before a record under its parent
-- `Open` is the code's struct of three numbers: the parent's group, the place of the child before the record (0 where
-- the record is the first child), and how many HTML tags stand before it.

-- under a parent of a group, before its first child
unfoldable pub before_children : ℕ → Open
before_children group = record { group = group; stage = 0; tags = 0 }

-- after one more child, of a kind
unfoldable pub after_child : Open → ℕ → Open
after_child o kind =
    record {
      group = o.group;
      stage = place_of o.group kind;
      tags = if eqb kind html_tag then o.tags + 1 else o.tags;
    }

-- Document 01, refusal 6: "not allowed under its parent, or out of order there; a third HTML tag, or content before the
-- second"
unfoldable pub misplaced : Open → ℕ → Bool
misplaced o kind =
    let place = place_of o.group kind in
    let container = eqb o.group parent_of_tags_and_blocks || eqb o.group parent_of_tags_and_inlines in
    eqb place 0
    || ltb place o.stage
    || eqb kind html_tag && leb 2 o.tags
    || container && not (eqb kind html_tag) && ltb o.tags 2

-- What stands before record i of the sheet, where its level is `level`. The sheet itself holds blocks.
unfoldable pub open_at : List ℕ → ℕ → ℕ → Open
open_at w level i =
    fold_siblings
    (before_children parent_of_blocks)
    (λ r. before_children (parent_group r.kind r.a))
    (λ o r. after_child o r.kind)
    w level i

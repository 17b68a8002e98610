-- The groups of kinds, for placement (refusal 6).
-- Document 01: "Children: blocks under the sheet, quote, alert, item and footnote definition; items under list; rows,
-- then cells; inlines under paragraph, heading, cell and what `Inline::children` lists. Directives: attributes, then
-- inlines, then (container only) blocks. HTML container: opening tag, closing tag, content of its sort."
use Rattle.std.specs.Prelude.{ℕ, [], ◌∷◌, eqb, if◌then◌else◌}
use Rattle.leaves.specs.Sheet.Kinds.{among, is_block, is_inline}
use Rattle.leaves.specs.Sheet.Kinds.{paragraph, heading, block_quote, alert, list, html_container}
use Rattle.leaves.specs.Sheet.Kinds.{footnote_definition, table, leaf_directive, container_directive}
use Rattle.leaves.specs.Sheet.Kinds.{item, row, cell, html_tag, attribute}
use Rattle.leaves.specs.Sheet.Kinds.{emphasis, strong, delete, mark, link, image, link_reference, image_reference}
use Rattle.leaves.specs.Sheet.Kinds.{inline_footnote, text_directive}

-- ---- groups of parents: what a record may hold
abbrev pub parent_of_blocks : ℕ
parent_of_blocks = 0

abbrev pub parent_of_items : ℕ
parent_of_items = 1

abbrev pub parent_of_rows : ℕ
parent_of_rows = 2

abbrev pub parent_of_cells : ℕ
parent_of_cells = 3

abbrev pub parent_of_inlines : ℕ
parent_of_inlines = 4

-- attributes, inlines
abbrev pub parent_of_label : ℕ
parent_of_label = 5

-- attributes, inlines, blocks
abbrev pub parent_of_label_and_blocks : ℕ
parent_of_label_and_blocks = 6

-- two tags, blocks
abbrev pub parent_of_tags_and_blocks : ℕ
parent_of_tags_and_blocks = 7

-- two tags, inlines
abbrev pub parent_of_tags_and_inlines : ℕ
parent_of_tags_and_inlines = 8

abbrev pub parent_of_nothing : ℕ
parent_of_nothing = 9

-- directives, and an HTML container by its A ("HTML container 0 blocks, 1 inlines")
unfoldable pub other_group : ℕ → ℕ → ℕ
other_group kind a =
    if among kind (leaf_directive ∷ text_directive ∷ [])
    then parent_of_label
    else if eqb kind container_directive
    then parent_of_label_and_blocks
    else if eqb kind html_container
    then (if eqb a 0 then parent_of_tags_and_blocks else parent_of_tags_and_inlines)
    else parent_of_nothing

-- the group of a parent, by its kind and its A
unfoldable pub parent_group : ℕ → ℕ → ℕ
parent_group kind a =
    if among kind (block_quote ∷ alert ∷ footnote_definition ∷ item ∷ [])
    then parent_of_blocks
    else if eqb kind list
    then parent_of_items
    else if eqb kind table
    then parent_of_rows
    else if eqb kind row
    then parent_of_cells
    else if among kind
    (paragraph ∷ heading ∷ cell ∷ emphasis ∷ strong ∷ delete ∷ mark
    ∷ link ∷ image ∷ link_reference ∷ image_reference ∷ inline_footnote ∷ [])
    then parent_of_inlines
    else other_group kind a

-- ---- groups of children: what a record is to its parent
abbrev pub block_group : ℕ
block_group = 0

abbrev pub item_group : ℕ
item_group = 1

abbrev pub row_group : ℕ
row_group = 2

abbrev pub cell_group : ℕ
cell_group = 3

-- HTML tags
abbrev pub tag_group : ℕ
tag_group = 4

abbrev pub attribute_group : ℕ
attribute_group = 5

abbrev pub inline_group : ℕ
inline_group = 6

-- of a kind that is not listed; no parent holds it
abbrev pub no_group : ℕ
no_group = 7

-- the group of a child, by its kind
unfoldable pub child_group : ℕ → ℕ
child_group kind =
    if is_block kind
    then block_group
    else if eqb kind item
    then item_group
    else if eqb kind row
    then row_group
    else if eqb kind cell
    then cell_group
    else if eqb kind html_tag
    then tag_group
    else if eqb kind attribute
    then attribute_group
    else if is_inline kind
    then inline_group
    else no_group

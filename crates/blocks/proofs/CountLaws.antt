-- How long the list of a sheet is, from the number of its records. Each entry is charged to the record whose span it copies, so that a bound on what one record is charged with is a bound on the whole list.
use Rattle.std.specs.Prelude.{Option, Some, None, Ok, if◌then◌else◌}
use mathlib.Core.Path.{◌≡◌, refl}
use mathlib.Core.Bool.{Bool, true, false, not, ◌&&◌, ◌||◌}
use mathlib.Core.List.{List, [], ◌∷◌, ◌++◌}
use Prim.Native.Nat.{ℕ, suc, ◌+◌, ◌*◌, ◌≤◌}
use native.Mathlib.Omega.{arith}
use borrow.Author.Tests.{eqb-true}
use lib.Dec.{eqb, ltb}
use lib.ListN.{length}
use Rattle.leaves.specs.Text.Same.{same_bytes}
use Rattle.leaves.specs.Sheet.Records.{records_of}
use Rattle.leaves.specs.Sheet.Kinds.{is_block, is_inline, paragraph, heading, block_quote, alert, list, code_block, html_container, definition, footnote_definition, table, frontmatter, leaf_directive, container_directive, blank_line, html_tag}
use Rattle.leaves.specs.Sheet.Empty.{is_empty}
use Rattle.leaves.specs.Sheet.Texts.{text_of}
use Rattle.leaves.specs.Sheet.Forest.{Forest, no_tree, tree, count_trees, size, forest_of}
use Rattle.leaves.specs.Refusal.Groups.{parent_group}
use Rattle.leaves.specs.Refusal.Places.{before_children, after_child}
use Rattle.leaves.specs.Refusal.Formed.{Formed}
use Rattle.leaves.specs.Refusal.Judge.{judge_sheet}
use Rattle.leaves.specs.declared.refusal.places.Open.{Open}
use Rattle.leaves.specs.Report.Entries.{Entry, list_if, ◌⊕◌}
use Rattle.leaves.specs.Report.Rules
use Rattle.leaves.specs.declared.sheet.records.Rec.{Rec}
use Rattle.leaves.specs.declared.sheet.records.Span.{Span}
use Rattle.leaves.specs.declared.sheet.records.Text.{Text}
use Rattle.leaves.proofs.sheet.ForestLaws.{size_of}
use Rattle.leaves.proofs.sheet.KindLaws.{kind-cases}
use Rattle.leaves.proofs.refusal.TagLaws.{container-group, container-tag}
use Rattle.leaves.proofs.refusal.FormedLaws.{accepted}
use Rattle.leaves.proofs.report.EntryLaws.{length-join, length-if, few-if}
use Rattle.inlines.specs.Single.{validate_destination, validate_directive_name}
use Rattle.inlines.specs.Attribute.{validate_directive_attributes}
use Rattle.inlines.specs.Depth.{validate_cell_values, validate_one_line}
use Rattle.inlines.specs.Nodes.{all_empty, validate_inlines}
use Rattle.inlines.proofs.CountLaws.{bit, sum_roots, spent, spent-none, spent-step, spent-most, inlines-spent, EachInline, tag_most, inline-most, Few, no-entry, one_entry, test-entry, both_entry, few-then, few-either}
use Rattle.blocks.specs.declared.before.Before.{Before}
use Rattle.blocks.specs.Before.{no_block, before_next, validate_taken_block}
use Rattle.blocks.specs.Heads.{validate_heading, validate_alert, validate_code_block, validate_definition}
use Rattle.blocks.specs.Frontmatter.{validate_frontmatter}
use Rattle.blocks.specs.Html.{validate_tag_pair, validate_tags, validate_html_container}
use Rattle.blocks.specs.Footnote.{blank_line_at, validate_footnote_definition}
use Rattle.blocks.specs.List.{validate_list}
use Rattle.blocks.specs.Item.{validate_blank_line, validate_item_blank_lines, validate_task_item}
use Rattle.blocks.specs.Number.{item_number, validate_item_number}
use Rattle.blocks.specs.Table.{validate_cell, validate_cells, validate_rows, header_width, validate_table}
use Rattle.blocks.specs.Paragraph.{validate_paragraph}
use Rattle.blocks.specs.Label.{before_blocks, validate_directive}
use Rattle.blocks.specs.Block.{validate_own}
use Rattle.blocks.specs.Holds.{holds_blocks}
use Rattle.blocks.specs.Walk.{validate_block, validate_item, validate_blocks, validate_list_items, validate_document}

-- ---- what is charged to one record

-- a blank line of a footnote definition (4) or of an item (51, 52 or 53)
abbrev pub blank_of : Rec → ℕ
blank_of r = bit (eqb r.kind blank_line)

-- 5 and 8, or 6 and 9, of one of a container's first two children: charged to it where it is a tag, and to the container where it is none
unfoldable pub empty_parts : Rec → ℕ
empty_parts r = bit (is_empty r.first) + bit (is_empty r.second)

unfoldable pub tag_faults : Rec → ℕ
tag_faults r = if eqb r.kind html_tag then empty_parts r else 0

unfoldable pub stray_faults : Rec → ℕ
stray_faults r = if eqb r.kind html_tag then 0 else empty_parts r

unfoldable pub strays : Forest → ℕ
strays no_tree = 0
strays (tree opening _ no_tree) = 0
strays (tree opening _ (tree closing _ _)) = stray_faults opening + stray_faults closing

-- 7 of a container
unfoldable pub names_entries : List ℕ → List ℕ → Span → Forest → List Entry
names_entries bytes path span no_tree = []
names_entries bytes path span (tree opening _ no_tree) = []
names_entries bytes path span (tree opening _ (tree closing _ _)) =
    list_if (not (same_bytes (text_of bytes opening.first) (text_of bytes closing.first))) Rules.tag_names_differ span path

-- 16, or 17 and 18, of a table
unfoldable pub table_entries : List ℕ → Span → ℕ → Forest → List Entry
table_entries path span a rows =
    if eqb (count_trees rows) 0
    then list_if true Rules.table_without_row span path
    else (list_if (eqb (header_width rows) 0) Rules.table_without_cell span path ⊕ list_if (not (eqb a (header_width rows))) Rules.alignment_count span path)

-- of the entries of `validate_own` those with the block's own span
unfoldable pub own_entries : List ℕ → List ℕ → Rec → Forest → List Entry
own_entries bytes path r kids =
    if eqb r.kind footnote_definition
    then list_if (is_empty r.first) Rules.empty_footnote_definition r.span path
    else if eqb r.kind table
    then table_entries path r.span r.a kids
    else if eqb r.kind alert
    then validate_alert bytes path r.span r.a r.first
    else if eqb r.kind list
    then validate_list path r.span r.c kids
    else if eqb r.kind html_container
    then names_entries bytes path r.span kids
    else if eqb r.kind container_directive
    then validate_directive_name bytes path r.span r.first
    else if eqb r.kind paragraph
    then list_if (all_empty kids) Rules.empty_paragraph r.span path
    else if eqb r.kind heading
    then list_if (eqb r.a 0 || ltb 6 r.a) Rules.heading_depth r.span path
    else if eqb r.kind code_block
    then validate_code_block bytes path r.span r.a r.b r.first r.second
    else if eqb r.kind definition
    then validate_definition bytes path r.span r.a r.first r.second
    else if eqb r.kind frontmatter
    then validate_frontmatter bytes path r.span r.level r.a r.first
    else if eqb r.kind leaf_directive
    then validate_directive_name bytes path r.span r.first
    else []

abbrev pub strays_of : Rec → Forest → ℕ
strays_of r kids = if eqb r.kind html_container then strays kids else 0

-- a record among the blocks, behind the block `before`: 1 and 15, its own, and what its parent lists of it
unfoldable pub block_charge : List ℕ → List ℕ → Before → Rec → Forest → ℕ
block_charge bytes path before r kids =
    length (validate_taken_block path r.span before r.kind r.a r.b)
    + length (own_entries bytes path r kids)
    + strays_of r kids
    + blank_of r
    + tag_faults r

-- an item: 49 or 50, and 14
unfoldable pub item_entries : List ℕ → ℕ → Rec → Forest → List Entry
item_entries path ordered r kids = validate_item_number path r.span ordered (item_number r.b r.c) ⊕ validate_task_item path r.span r.a kids

-- ---- what is listed of a block's children besides their own walk

roots-none : (each : Rec → ℕ) → sum_roots each no_tree ≡ 0
unfolding sum_roots
roots-none each = refl

roots-tree : (each : Rec → ℕ) (r : Rec) (kids rest : Forest) → sum_roots each (tree r kids rest) ≡ each r + sum_roots each rest
unfolding sum_roots
roots-tree each r kids rest = refl

parts-split : (r : Rec) → empty_parts r ≡ tag_faults r + stray_faults r
unfolding tag_faults stray_faults
parts-split r = go (eqb r.kind html_tag) refl
  where
    go : (b : Bool) → eqb r.kind html_tag ≡ b → empty_parts r ≡ tag_faults r + stray_faults r
    go true e = rw e (omega arith)
    go false e = rw e (omega arith)

tags-few : (bytes path : List ℕ) (span : Span) (kids : Forest) → length (validate_tags bytes path span kids) ≤ length (names_entries bytes path span kids) + strays kids + sum_roots tag_faults kids
unfolding validate_tags validate_tag_pair names_entries strays empty_parts
tags-few bytes path span no_tree = omega arith
tags-few bytes path span (tree opening _ no_tree) = omega arith
tags-few bytes path span (tree opening under (tree closing under' rest)) =
    simp (length-join, length-if)
    (omega (arith, parts-split opening, parts-split closing, roots-tree tag_faults opening under (tree closing under' rest), roots-tree tag_faults closing under' rest))

if-both : (b c : Bool) (x y : List Entry) → length x ≤ 1 → length (if b && c then x else y) ≤ bit b + length y
if-both true true x y h = omega arith
if-both true false x y h = omega arith
if-both false c x y h = omega arith

blank-few : (path : List ℕ) (k : ℕ) (f : Forest) → length (blank_line_at path k f) ≤ sum_roots blank_of f
unfolding blank_line_at
blank-few path k no_tree = omega arith
blank-few path k (tree r kids rest) =
    let here = list_if true Rules.blank_line_in_footnote r.span (path ++ k ∷ []) in
    omega (
      arith,
      roots-tree blank_of r kids rest,
      blank-few path (suc k) rest,
      if-both (eqb r.kind blank_line) (eqb k 0 || eqb (count_trees rest) 0) here (blank_line_at path (suc k) rest) (few-if true Rules.blank_line_in_footnote r.span (path ++ k ∷ [])),
    )

one-blank : (path : List ℕ) (span : Span) (blank tight first last : Bool) → length (validate_blank_line path span blank tight first last) ≤ bit blank
unfolding validate_blank_line
one-blank path span false tight first last = simp (length-join, length-if) (omega arith)
one-blank path span true true first last = simp (length-join, length-if) (omega arith)
one-blank path span true false true last = simp (length-join, length-if) (omega arith)
one-blank path span true false false last = simp (length-join, length-if false) (omega (arith, few-if last Rules.blank_line_last span path))

item-blanks : (path : List ℕ) (tight last : Bool) (k : ℕ) (f : Forest) → length (validate_item_blank_lines path tight last k f) ≤ sum_roots blank_of f
unfolding validate_item_blank_lines
item-blanks path tight last k no_tree = omega arith
item-blanks path tight last k (tree r kids rest) =
    simp length-join
    (omega (
      arith,
      roots-tree blank_of r kids rest,
      item-blanks path tight last (suc k) rest,
      one-blank (path ++ k ∷ []) r.span (eqb r.kind blank_line) tight (eqb k 0) (last && eqb (count_trees rest) 0),
    ))

-- ---- a bound for one record is a bound for all
-- the three walks over one forest: as blocks, as a directive's label with the blocks behind it (`own` is the directive's path), and as items
pub record Counted (bytes : List ℕ) (most : ℕ) (f : Forest) : Type 0 where
  pub blocks : (path : List ℕ) (k : ℕ) (before : Before) → length (validate_blocks bytes path k before f) + sum_roots blank_of f + sum_roots tag_faults f ≤ most * size f
  pub label : (own path : List ℕ) (rule behind k : ℕ) (before : Before) → spent bytes own rule tag_faults behind (before_blocks f) + length (validate_blocks bytes path k before f) ≤ most * size f
  pub items : (path : List ℕ) (k ordered tight : ℕ) → length (validate_list_items bytes path k ordered tight f) ≤ most * size f

module _ (bytes : List ℕ) (most : ℕ) (inline : EachInline bytes tag_faults most) where
  -- inlines and what is asked of them
  under-most : (path : List ℕ) (rule : ℕ) (f : Forest) → length (validate_inlines bytes path f) + length (validate_directive_attributes bytes path f) + length (validate_one_line rule path f) + length (validate_cell_values bytes path f) + sum_roots tag_faults f ≤ most * size f
  under-most path rule f = omega (arith, inlines-spent bytes path rule tag_faults f, spent-most bytes tag_faults most inline path rule 0 f)

  cells-most : (path : List ℕ) (k : ℕ) (f : Forest) → length (validate_cells bytes path k f) ≤ most * size f
  unfolding validate_cells validate_cell size
  cells-most path k no_tree = omega arith
  cells-most path k (tree r kids rest) = simp length-join (omega (arith, under-most (path ++ k ∷ []) Rules.break_in_cell kids, cells-most path (suc k) rest))

  module _ (row : 1 ≤ most) where
    rows-most : (path : List ℕ) (width k : ℕ) (f : Forest) → length (validate_rows bytes path width k f) ≤ most * size f
    unfolding validate_rows size
    rows-most path width k no_tree = omega arith
    rows-most path width k (tree r kids rest) =
        simp length-join
        (omega (
          arith,
          few-if (not (eqb (count_trees kids) width)) Rules.row_width r.span (path ++ k ∷ []),
          cells-most (path ++ k ∷ []) 0 kids,
          rows-most path width (suc k) rest,
        ))

    table-few : (path : List ℕ) (span : Span) (a : ℕ) (rows : Forest) → length (validate_table bytes path span a rows) ≤ length (table_entries path span a rows) + most * size rows
    unfolding validate_table table_entries
    table-few path span a rows = go (eqb (count_trees rows) 0) refl
      where
        go : (b : Bool) → eqb (count_trees rows) 0 ≡ b → length (validate_table bytes path span a rows) ≤ length (table_entries path span a rows) + most * size rows
        go true e = rw e (omega arith)
        go false e = rw e (simp length-join (omega (arith, rows-most path (header_width rows) 0 rows)))

    -- one block, from what its items and its blocks list
    module _ (path : List ℕ) (level : ℕ) (span : Span) (a b c : ℕ) (first second : Text) (kids : Forest) (items blocks : List Entry) (its : length items ≤ most * size kids) (its-blocks : length blocks + sum_roots blank_of kids + sum_roots tag_faults kids ≤ most * size kids) (label : (rule : ℕ) → length (validate_directive_attributes bytes path (before_blocks kids)) + length (validate_inlines bytes path (before_blocks kids)) + length (validate_one_line rule path (before_blocks kids)) + length blocks ≤ most * size kids) where
      abbrev of : ℕ → Rec
      of k = record { kind = k; level = level; span = span; a = a; b = b; c = c; first = first; second = second }

      abbrev Counts : ℕ → Type 0
      Counts k = length (validate_block bytes path (of k) kids items blocks) ≤ length (own_entries bytes path (of k) kids) + strays_of (of k) kids + most * size kids

      html-few : Counts html_container
      unfolding validate_block validate_own validate_html_container holds_blocks own_entries
      html-few = go (eqb a 0) refl
        where
          go : (b : Bool) → eqb a 0 ≡ b → Counts html_container
          go true e = rw e (simp length-join (omega (arith, tags-few bytes path span kids)))
          go false e = rw e (simp length-join (omega (arith, tags-few bytes path span kids, under-most path 0 kids)))

      block-few : (k : ℕ) → Counts k
      unfolding validate_block validate_own validate_footnote_definition validate_directive validate_paragraph validate_heading holds_blocks own_entries
      block-few k =
          kind-cases Counts k footnote_definition (simp length-join (omega (arith, blank-few path 0 kids)))
          (λ e0. kind-cases Counts k table (simp length-join (omega (arith, table-few path span a kids)))
          (λ e1. kind-cases Counts k alert (simp length-join (omega arith))
          (λ e2. kind-cases Counts k list (simp length-join (omega arith))
          (λ e3. kind-cases Counts k html_container html-few
          (λ e4. kind-cases Counts k container_directive (simp length-join (omega (arith, label Rules.break_in_container_label)))
          (λ e5. kind-cases Counts k paragraph (simp length-join (omega (arith, under-most path 0 kids)))
          (λ e6. kind-cases Counts k heading (simp length-join (omega (arith, under-most path 0 kids)))
          (λ e7. kind-cases Counts k code_block (simp length-join (omega arith))
          (λ e8. kind-cases Counts k definition (simp length-join (omega arith))
          (λ e9. kind-cases Counts k frontmatter (simp length-join (omega arith))
          (λ e10. kind-cases Counts k leaf_directive (simp length-join (omega (arith, label Rules.break_in_leaf_label)))
          (λ e11. kind-cases Counts k block_quote (simp length-join (omega arith))
          (λ e12. rw (e0, e1, e2, e3, e4, e5, e6, e7, e8, e9, e10, e11, e12) (simp length-join (omega arith)))))))))))))))

    counted_none : Counted bytes most no_tree
    unfolding validate_blocks validate_list_items before_blocks sum_roots
    counted_none =
        record {
          blocks = λ path k before. omega arith;
          label = λ own path rule behind k before. omega (arith, spent-none bytes own rule tag_faults behind);
          items = λ path k ordered tight. omega arith;
        }

    -- a tree, from the forests inside and beside it
    module _ (r : Rec) (kids rest : Forest) (block : (path : List ℕ) (before : Before) → block_charge bytes path before r kids ≤ most) (item : (path : List ℕ) (ordered : ℕ) → length (item_entries path ordered r kids) ≤ most) (inside : Counted bytes most kids) (beside : Counted bytes most rest) where
      of-block : (path : List ℕ) (k : ℕ) (before : Before) → is_block r.kind ≡ true → validate_blocks bytes path k before (tree r kids rest) ≡ validate_taken_block (path ++ k ∷ []) r.span before r.kind r.a r.b ⊕ validate_block bytes (path ++ k ∷ []) r kids (validate_list_items bytes (path ++ k ∷ []) 0 r.a r.c kids) (validate_blocks bytes (path ++ k ∷ []) 0 no_block kids) ⊕ validate_blocks bytes path (suc k) (before_next before r.kind r.a r.b) rest
      unfolding validate_blocks
      of-block path k before e = rw e

      of_other : (path : List ℕ) (k : ℕ) (before : Before) → is_block r.kind ≡ false → validate_blocks bytes path k before (tree r kids rest) ≡ validate_blocks bytes path k before rest
      unfolding validate_blocks
      of_other path k before e = rw e

      under-label : (path : List ℕ) (rule : ℕ) → length (validate_directive_attributes bytes path (before_blocks kids)) + length (validate_inlines bytes path (before_blocks kids)) + length (validate_one_line rule path (before_blocks kids)) + length (validate_blocks bytes path 0 no_block kids) ≤ most * size kids
      under-label path rule = omega (arith, inlines-spent bytes path rule tag_faults (before_blocks kids), inside.label path path rule 0 0 no_block)

      own-few : (path : List ℕ) → length (validate_block bytes path r kids (validate_list_items bytes path 0 r.a r.c kids) (validate_blocks bytes path 0 no_block kids)) ≤ length (own_entries bytes path r kids) + strays_of r kids + most * size kids
      own-few path =
          block-few path r.level r.span r.a r.b r.c r.first r.second kids
          (validate_list_items bytes path 0 r.a r.c kids) (validate_blocks bytes path 0 no_block kids)
          (inside.items path 0 r.a r.c) (inside.blocks path 0 no_block) (under-label path) r.kind

      tree-blocks : (path : List ℕ) (k : ℕ) (before : Before) → length (validate_blocks bytes path k before (tree r kids rest)) + sum_roots blank_of (tree r kids rest) + sum_roots tag_faults (tree r kids rest) ≤ most * size (tree r kids rest)
      unfolding size block_charge
      tree-blocks path k before = go (is_block r.kind) refl
        where
          go : (b : Bool) → is_block r.kind ≡ b → length (validate_blocks bytes path k before (tree r kids rest)) + sum_roots blank_of (tree r kids rest) + sum_roots tag_faults (tree r kids rest) ≤ most * size (tree r kids rest)
          go true e =
              rw (of-block path k before e)
              (simp length-join
              (omega (
                arith,
                roots-tree blank_of r kids rest,
                roots-tree tag_faults r kids rest,
                block (path ++ k ∷ []) before,
                own-few (path ++ k ∷ []),
                beside.blocks path (suc k) (before_next before r.kind r.a r.b),
              )))
          go false e =
              rw (of_other path k before e)
              (omega (arith, roots-tree blank_of r kids rest, roots-tree tag_faults r kids rest, block (path ++ k ∷ []) before, beside.blocks path k before))

      tree-label : (own path : List ℕ) (rule behind k : ℕ) (before : Before) → spent bytes own rule tag_faults behind (before_blocks (tree r kids rest)) + length (validate_blocks bytes path k before (tree r kids rest)) ≤ most * size (tree r kids rest)
      unfolding size before_blocks
      tree-label own path rule behind k before = go (is_block r.kind) refl
        where
          go : (b : Bool) → is_block r.kind ≡ b → spent bytes own rule tag_faults behind (before_blocks (tree r kids rest)) + length (validate_blocks bytes path k before (tree r kids rest)) ≤ most * size (tree r kids rest)
          go true e = rw e (omega (arith, spent-none bytes own rule tag_faults behind, tree-blocks path k before))
          go false e =
              rw (of_other path k before e, e)
              (omega (
                arith,
                spent-step bytes own rule tag_faults behind r kids (before_blocks rest),
                inline own rule behind r kids,
                spent-most bytes tag_faults most inline own rule 0 kids,
                beside.label own path rule (if is_inline r.kind then r.kind else behind) k before,
              ))

      tree-items : (path : List ℕ) (k ordered tight : ℕ) → length (validate_list_items bytes path k ordered tight (tree r kids rest)) ≤ most * size (tree r kids rest)
      unfolding validate_list_items validate_item item_entries size
      tree-items path k ordered tight =
          simp length-join
          (omega (
            arith,
            simp length-join at (item (path ++ k ∷ []) ordered),
            item-blanks (path ++ k ∷ []) (eqb tight 1) (eqb (count_trees rest) 0) 0 kids,
            inside.blocks (path ++ k ∷ []) 0 no_block,
            beside.items path (suc k) ordered tight,
          ))

      counted-tree : Counted bytes most (tree r kids rest)
      counted-tree = record { blocks = tree-blocks; label = tree-label; items = tree-items }

    -- `Fine` is what the bounds for one record may go by: a property of a forest that holds of the forests inside and beside each tree too
    module _ (Fine : Forest → Type 0) (inside : (r : Rec) (kids rest : Forest) → Fine (tree r kids rest) → Fine kids) (beside : (r : Rec) (kids rest : Forest) → Fine (tree r kids rest) → Fine rest) (block : (path : List ℕ) (before : Before) (r : Rec) (kids rest : Forest) → Fine (tree r kids rest) → block_charge bytes path before r kids ≤ most) (item : (path : List ℕ) (ordered : ℕ) (r : Rec) (kids : Forest) → length (item_entries path ordered r kids) ≤ most) where
      pub counted : (f : Forest) → Fine f → Counted bytes most f
      counted no_tree fine = counted_none
      counted (tree r kids rest) fine =
          counted-tree r kids rest (λ path before. block path before r kids rest fine) (λ path ordered. item path ordered r kids) (counted kids (inside r kids rest fine)) (counted rest (beside r kids rest fine))

      pub walk-few : (f : Forest) → Fine f → length (validate_blocks bytes [] 0 no_block f) ≤ most * size f
      walk-few f fine = omega (arith, (counted f fine).blocks [] 0 no_block)

-- ---- the bound for one record, by its kind

bit-most : (b : Bool) → bit b ≤ 1
bit-most true = omega arith
bit-most false = omega arith

parts-most : (r : Rec) → empty_parts r ≤ 2
unfolding empty_parts
parts-most r = omega (arith, bit-most (is_empty r.first), bit-most (is_empty r.second))

tag-most : (r : Rec) → tag_faults r ≤ tag_most r.kind
unfolding tag_faults
tag-most r = go (eqb r.kind html_tag) refl
  where
    go : (b : Bool) → eqb r.kind html_tag ≡ b → tag_faults r ≤ tag_most r.kind
    go true e = rw e (parts-most r)
    go false e = rw e (omega arith)

-- 1 is of a list, and 15 of a code block
middle-entry : (a b c : Bool) (rule : ℕ) (span : Span) (path : List ℕ) → Few (list_if (a && b && c) rule span path) (bit b)
middle-entry true b c rule span path = both_entry b c rule span path
middle-entry false true c rule span path = one_entry false rule span path
middle-entry false false c rule span path = test-entry false rule span path

front-entry : (a b c : Bool) (rule : ℕ) (span : Span) (path : List ℕ) → Few (list_if (a && b && c) rule span path) (bit a)
front-entry true b c rule span path = one_entry _ rule span path
front-entry false b c rule span path = test-entry false rule span path

taken-most : (path : List ℕ) (span : Span) (before : Before) (k a b : ℕ) → Few (validate_taken_block path span before k a b) (bit (eqb k list) + bit (eqb k code_block))
unfolding validate_taken_block
taken-most path span before k a b = few-then (middle-entry (eqb before.kind list) (eqb k list) _ _ _ _) (front-entry (eqb k code_block) _ _ _ _ _)

names-most : (bytes path : List ℕ) (span : Span) (kids : Forest) → Few (names_entries bytes path span kids) 1
unfolding names_entries
names-most bytes path span no_tree = record { few = omega arith }
names-most bytes path span (tree opening _ no_tree) = record { few = omega arith }
names-most bytes path span (tree opening _ (tree closing _ _)) = one_entry _ _ _ _

table-most : (path : List ℕ) (span : Span) (a : ℕ) (rows : Forest) → Few (table_entries path span a rows) 2
unfolding table_entries
table-most path span a rows = go (eqb (count_trees rows) 0) refl
  where
    go : (b : Bool) → eqb (count_trees rows) 0 ≡ b → Few (table_entries path span a rows) 2
    go true e = record { few = rw (e, length-if) (omega arith) }
    go false e = rw e (few-then (one_entry _ _ _ _) (one_entry _ _ _ _))

-- a block's own entries
unfoldable own_most : ℕ → ℕ
own_most k =
    if eqb k footnote_definition
    then 1
    else if eqb k table
    then 2
    else if eqb k alert
    then 1
    else if eqb k list
    then 2
    else if eqb k html_container
    then 1
    else if eqb k container_directive
    then 1
    else if eqb k paragraph
    then 1
    else if eqb k heading
    then 1
    else if eqb k code_block
    then 2
    else if eqb k definition
    then 2
    else if eqb k frontmatter
    then 2
    else if eqb k leaf_directive
    then 1
    else 0

own-most : (bytes path : List ℕ) (r : Rec) (kids : Forest) → Few (own_entries bytes path r kids) (own_most r.kind)
unfolding own_entries own_most validate_alert validate_list validate_directive_name validate_code_block validate_definition validate_destination validate_frontmatter
own-most bytes path r kids =
    let one : (b : Bool) (rule : ℕ) → Few (list_if b rule r.span path) 1 = λ b rule. one_entry b rule r.span path in
    few-either (eqb r.kind footnote_definition) (one _ _)
    (few-either (eqb r.kind table) (table-most path r.span r.a kids)
    (few-either (eqb r.kind alert) (one _ _)
    (few-either (eqb r.kind list) (few-then (one _ _) (one _ _))
    (few-either (eqb r.kind html_container) (names-most bytes path r.span kids)
    (few-either (eqb r.kind container_directive) (one _ _)
    (few-either (eqb r.kind paragraph) (one _ _)
    (few-either (eqb r.kind heading) (one _ _)
    (few-either (eqb r.kind code_block) (few-then (one _ _) (one _ _))
    (few-either (eqb r.kind definition) (few-then (one _ _) (one _ _))
    (few-either (eqb r.kind frontmatter) (few-then (one _ _) (one _ _))
    (few-either (eqb r.kind leaf_directive) (one _ _) no-entry)))))))))))

-- How many entries one record of an accepted sheet may have: a code block 15, 26 and 27, and a line break 20, 30 and 37.
abbrev pub entries_of_one : ℕ
entries_of_one = 3

unfoldable kind_most : ℕ → ℕ
kind_most k = bit (eqb k list) + bit (eqb k code_block) + own_most k + bit (eqb k blank_line) + tag_most k

kind-most : (k : ℕ) → kind_most k ≤ entries_of_one
unfolding kind_most own_most
kind-most k =
    let Most : ℕ → Type 0 = λ k. kind_most k ≤ entries_of_one in
    kind-cases Most k list (omega arith)
    (λ e0. kind-cases Most k code_block (omega arith)
    (λ e1. kind-cases Most k footnote_definition (omega arith)
    (λ e2. kind-cases Most k table (omega arith)
    (λ e3. kind-cases Most k alert (omega arith)
    (λ e4. kind-cases Most k html_container (omega arith)
    (λ e5. kind-cases Most k container_directive (omega arith)
    (λ e6. kind-cases Most k paragraph (omega arith)
    (λ e7. kind-cases Most k heading (omega arith)
    (λ e8. kind-cases Most k definition (omega arith)
    (λ e9. kind-cases Most k frontmatter (omega arith)
    (λ e10. kind-cases Most k leaf_directive (omega arith)
    (λ e11. kind-cases Most k blank_line (omega arith)
    (λ e12. kind-cases Most k html_tag (omega arith)
    (λ e13. rw (e0, e1, e2, e3, e4, e5, e6, e7, e8, e9, e10, e11, e12, e13) (omega arith)))))))))))))))

block-most : (bytes path : List ℕ) (before : Before) (r : Rec) (kids : Forest) → block_charge bytes path before r kids ≤ entries_of_one + strays_of r kids
unfolding block_charge kind_most
block-most bytes path before r kids =
    omega
    (arith, kind-most r.kind, (taken-most path r.span before r.kind r.a r.b).few, (own-most bytes path r kids).few, tag-most r)

item-most : (path : List ℕ) (ordered : ℕ) (r : Rec) (kids : Forest) → length (item_entries path ordered r kids) ≤ entries_of_one
unfolding item_entries validate_task_item validate_item_number
item-most path ordered r kids = (few-then (number-most (item_number r.b r.c)) (one_entry _ _ _ _)).few
  where
    number-most : (n : Option ℕ) → Few (validate_item_number path r.span ordered n) 2
    number-most None = record { few = omega arith }
    number-most (Some number) = few-then (one_entry _ _ _ _) (one_entry _ _ _ _)

-- ---- an accepted sheet: the first two children of a container are tags
container-strays : (bytes : List ℕ) (l a : ℕ) (kids : Forest) → Formed bytes l (before_children (parent_group html_container a)) kids → strays kids ≡ 0
unfolding Formed strays stray_faults before_children after_child
container-strays bytes l a no_tree h = refl
container-strays bytes l a (tree opening _ no_tree) h = refl
container-strays bytes l a (tree opening _ (tree closing _ _)) h =
    let o = before_children (parent_group html_container a) in
    let p : eqb opening.kind html_tag ≡ true = container-tag o opening.kind (container-group a) refl h.0.place in
    let q : eqb closing.kind html_tag ≡ true = container-tag (after_child o html_tag) closing.kind (container-group a) refl (rw (eqb-true opening.kind html_tag p) at h.2.0.place) in
    rw (p, q)

no-strays : (bytes : List ℕ) (l : ℕ) (r : Rec) (kids : Forest) → Formed bytes l (before_children (parent_group r.kind r.a)) kids → strays_of r kids ≡ 0
no-strays bytes l r kids h = go (eqb r.kind html_container) refl
  where
    go : (b : Bool) → eqb r.kind html_container ≡ b → strays_of r kids ≡ 0
    go true e = rw e (container-strays bytes l r.a kids (rw (eqb-true r.kind html_container e) at h))
    go false e = rw e

-- a forest of an accepted sheet, wherever it stands
record Stands (bytes : List ℕ) (f : Forest) : Type 0 where
  level : ℕ
  state : Open
  formed : Formed bytes level state f

pub few-accepted : (w bytes : List ℕ) → judge_sheet w bytes ≡ Ok tt → length (validate_document w bytes) ≤ entries_of_one * records_of w
unfolding validate_document Formed
few-accepted w bytes a =
    rw (← size_of w)
    (walk-few bytes entries_of_one (inline-most bytes tag_faults tag-most) (omega arith) (Stands bytes)
    (λ r kids rest fine. record { level = fine.level + 1; state = before_children (parent_group r.kind r.a); formed = fine.formed.1 })
    (λ r kids rest fine. record { level = fine.level; state = after_child fine.state r.kind; formed = fine.formed.2 })
    (λ path before r kids rest fine. omega (arith, block-most bytes path before r kids, no-strays bytes (fine.level + 1) r kids fine.formed.1))
    item-most
    (forest_of w) (record { level = 0; state = _; formed = (accepted w bytes a).tree }))

-- What acceptance says of the tree that a sheet holds. A reader need not believe these: they follow from `judge_sheet`,
-- and the walks and the machine cite them.
use Rattle.std.specs.Prelude.{◌≡◌, true, false, ◌&&◌, List, ℕ, ◌+◌, ◌*◌, ◌<◌, ◌≤◌, eqb}
use Rattle.std.specs.Prelude.{ltb, length}
use Rattle.leaves.specs.Text.Utf8.{is_utf8}
use Rattle.leaves.specs.Sheet.Kinds.{is_kind, html_container, html_tag}
use Rattle.leaves.specs.Sheet.Records.{record_at, records_of, record_words}
use Rattle.leaves.specs.Sheet.Forest.{Forest, no_tree, tree, forest_of, count_kind}
use Rattle.leaves.specs.Refusal.Groups.{parent_of_blocks, parent_group}
use Rattle.leaves.specs.Refusal.Places.{before_children, after_child, misplaced}
use Rattle.leaves.specs.Refusal.Fields.{bad_field}
use Rattle.leaves.specs.Refusal.Limits.{most_records, most_bytes, most_level}
use Rattle.leaves.specs.Sheet.Texts.{text_of}
use Rattle.leaves.specs.declared.sheet.records.Rec.{Rec}
use Rattle.leaves.specs.declared.sheet.records.Text.{Text}
use Rattle.leaves.specs.declared.refusal.places.Open.{Open}

-- a text that a record names: inside the sheet's text, and well-formed
pub record NamedText (bytes : List ℕ) (t : Text) : Type 0 where
  pub inside : t.start + t.len ≤ length bytes
  pub formed : is_utf8 (text_of bytes t) ≡ true

-- a record r with its kids, one level below the level l; o is what stands before it under its parent
pub record Head (bytes : List ℕ) (l : ℕ) (o : Open) (r : Rec) (kids : Forest) : Type 0 where
  pub kind : is_kind r.kind ≡ true
  pub level : r.level ≡ l + 1
  pub most : r.level ≤ most_level
  pub place : misplaced o r.kind ≡ false
  pub field : bad_field r ≡ false
  pub first : NamedText bytes r.first
  pub second : NamedText bytes r.second
  pub tags : (eqb r.kind html_container && ltb (count_kind html_tag kids) 2) ≡ false

-- the trees under a parent of the level l, each with its kids
unfoldable pub Formed : List ℕ → ℕ → Open → Forest → Type 0
Formed bytes l o no_tree = Unit {0}
Formed bytes l o (tree r kids rest) =
    Head bytes l o r kids
    × Formed bytes (l + 1) (before_children (parent_group r.kind r.a)) kids
    × Formed bytes l (after_child o r.kind) rest

-- a sheet and its text that are accepted
pub record Sound (w bytes : List ℕ) : Type 0 where
  pub whole : records_of w * record_words ≡ length w
  pub few : records_of w ≤ most_records
  pub short : length bytes ≤ most_bytes
  pub shallow : (i : ℕ) → i < records_of w → (record_at w i).level ≤ most_level
  pub tree : Formed bytes 0 (before_children parent_of_blocks) (forest_of w)

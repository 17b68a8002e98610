-- What the stops and the marks of the setting machine go by: what is open around a record, its siblings before it, and
-- its own children that have closed.
use Rattle.std.specs.Prelude.{ℕ, Bool, true, false, ◌&&◌, ◌||◌, List, [], ◌∷◌, eqb, length}
use Rattle.std.specs.Prelude.{if◌then◌else◌}
use mathlib.Core.List.{get_last_d}
use Rattle.leaves.specs.Sheet.Kinds.{among, no_kind, is_inline, list, table, blank_line}
use Rattle.leaves.specs.Sheet.Kinds.{text, link, link_reference, soft_break, line_break}
use Rattle.leaves.specs.declared.sheet.records.Rec.{Rec}
use Rattle.leaves.specs.Text.Marker.{written_marker}
use Rattle.setter.specs.Steps.{Frame}

-- the children of the innermost open record that have closed, newest first: the siblings before
abbrev pub siblings : List Frame → List Rec
siblings [] = []
siblings (f ∷ around) = f.kids

-- A of the nearest open table, by which stops 1 and 2 go; 0 where there is none
unfoldable pub columns : List Frame → ℕ
columns [] = 0
columns (f ∷ around) = let outer = columns around in if eqb f.of.kind table then f.of.a else outer

-- the kind of the "nearest open non-inline"; `no_kind` for the sheet
unfoldable pub nearest : List Frame → ℕ
nearest [] = no_kind
nearest (f ∷ around) = let outer = nearest around in if is_inline f.of.kind then outer else f.of.kind

-- a link or link reference is open: what opens now is "under a link or link reference, at any depth"
unfoldable pub in_link : List Frame → Bool
in_link [] = false
in_link (f ∷ around) = among f.of.kind (link ∷ link_reference ∷ []) || in_link around

-- the list that holds an item is ordered (A is 1): it is an "ordered item", and else a "bullet item"
abbrev pub ordered : List Frame → Bool
ordered [] = false
ordered (f ∷ around) = eqb f.of.a 1

-- the newest sibling is an "inline break", a soft break or a line break: what opens now is "straight after a sibling
-- break"
abbrev pub behind_break : List Rec → Bool
behind_break [] = false
behind_break (s ∷ ss) = among s.kind (soft_break ∷ line_break ∷ [])

-- the newest sibling, "only blank lines skipped", is "a sibling list of the same written marker"
unfoldable pub behind_list : List Rec → Rec → Bool
behind_list [] r = false
behind_list (s ∷ ss) r =
    let before = behind_list ss r in
    if eqb s.kind blank_line
    then before
    else eqb s.kind list && eqb (written_marker s.a s.b) (written_marker r.a r.b)

-- "nothing but empty texts": each child is a text of no bytes
unfoldable pub only_empty : List Rec → Bool
only_empty [] = true
only_empty (s ∷ ss) = (eqb s.kind text && eqb s.first.len 0) && only_empty ss

-- an item's number, "or 1 without one"
abbrev pub number_or_1 : Rec → ℕ
number_or_1 r = if eqb r.b 1 then r.c else 1

-- the start number of an ordered list: "the first item's number, or 1 without one". The first item is the oldest of
-- the siblings before item r, or r itself where there is none.
unfoldable pub start_number : List Rec → Rec → ℕ
start_number before r = number_or_1 (get_last_d before r)

-- what the stops and the mark go by when a record opens or closes, beside the record itself
pub record Seen : Type 0 where
  -- A of the nearest table that is open around the record; 0 where there is none
  pub columns : ℕ
  -- the kind of the nearest record open around it that is no inline; `no_kind` for the sheet
  pub nearest : ℕ
  -- a link or link reference is open around it, at any depth
  pub linked : Bool
  -- the record that holds it has an A of 1: for an item, its list is ordered
  pub ordered : Bool
  -- how many siblings stand before it
  pub siblings_before : ℕ
  -- the sibling straight before it is an inline break
  pub broke : Bool
  -- the sibling before it, only blank lines skipped, is a list of its written marker (asked only where it is a list)
  pub joins : Bool
  -- the start number of its list (asked only where it is an item of an ordered list)
  pub start_number : ℕ
  -- how many children it has that have closed: none as it opens, and all as it closes
  pub kids : ℕ
  -- these are nothing but empty texts
  pub empty : Bool

-- the same, read off the record's own frame and the frames that are open around it
abbrev pub seen : Frame → List Frame → Seen
seen f around =
    record {
      columns = columns around;
      nearest = nearest around;
      linked = in_link around;
      ordered = ordered around;
      siblings_before = length (siblings around);
      broke = behind_break (siblings around);
      joins = behind_list (siblings around) f.of;
      start_number = start_number (siblings around) f.of;
      kids = length f.kids;
      empty = only_empty f.kids;
    }

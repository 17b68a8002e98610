-- What the machine's code keeps of an open record, in place of the records themselves. A reader need not believe these:
-- the machine's promise does not cite them.
use Rattle.std.specs.Prelude.{ℕ, ◌+◌, Bool, true, false, ◌&&◌, ◌||◌, List, [], ◌∷◌, eqb, length}
use Rattle.std.specs.Prelude.{if◌then◌else◌}
use Rattle.leaves.specs.Sheet.Kinds.{among, is_inline, list, table, blank_line, link, link_reference}
use Rattle.leaves.specs.declared.sheet.records.Rec.{Rec}
use Rattle.leaves.specs.Sheet.Classes.{is_break}
use Rattle.leaves.specs.Sheet.Empty.{is_empty_text}
use Rattle.leaves.specs.Text.Marker.{written_marker}
use Rattle.leaves.specs.Refusal.Limits.{most_records}
use Rattle.setter.specs.Steps.{Frame}
use Rattle.setter.specs.Seen.{Seen, columns, nearest, in_link, behind_break, only_empty, start_number}
use Rattle.setter.specs.declared.kept.Kept.{Kept}

-- no record has more children: a sheet has no more records
abbrev pub most_kids : ℕ
most_kids = most_records

-- the marker kept once record r has closed: for a list its written one, for a blank line the one before, and 0 for any
-- other kind
abbrev pub next_marker : Rec → ℕ → ℕ
next_marker r before =
    if eqb r.kind blank_line
    then before
    else if eqb r.kind list
    then written_marker r.a r.b
    else 0

-- the marker kept once these siblings have closed, newest first
unfoldable pub marker_behind : List Rec → ℕ
marker_behind [] = 0
marker_behind (s ∷ ss) = next_marker s (marker_behind ss)

-- the start number kept once these children have closed, newest first; 1 where none has
unfoldable pub start_behind : List Rec → ℕ
start_behind [] = 1
start_behind (s ∷ ss) = start_number ss s

-- the start number of an ordered list of which k is kept, where r is its next item
abbrev pub start_with : Rec → Kept → ℕ
start_with r k = if eqb k.kids 0 && eqb r.b 1 then r.c else k.start_number

-- what is kept of an open record
unfoldable pub kept_of : Frame → List Frame → Kept
kept_of f around =
    record {
      at = f.at;
      columns = columns (f ∷ around);
      nearest = nearest (f ∷ around);
      linked = in_link (f ∷ around);
      ordered = eqb f.of.a 1;
      kids = length f.kids;
      broke = behind_break f.kids;
      marker = marker_behind f.kids;
      empty = only_empty f.kids;
      start_number = start_behind f.kids;
    }

-- what record r sees, where k is kept of the record around it. `kids` of the children of r have closed, and `empty`
-- says whether these are nothing but empty texts.
abbrev pub seen_by : Rec → Kept → ℕ → Bool → Seen
seen_by r k kids empty =
    record {
      columns = k.columns;
      nearest = k.nearest;
      linked = k.linked;
      ordered = k.ordered;
      siblings_before = k.kids;
      broke = k.broke;
      joins = eqb k.marker (written_marker r.a r.b);
      start_number = start_with r k;
      kids = kids;
      empty = empty;
    }

-- what is kept of record i, which is r, as it opens under the record of which k is kept
unfoldable pub opened_in : ℕ → Rec → Kept → Kept
opened_in i r k =
    record {
      at = i;
      columns = if eqb r.kind table then r.a else k.columns;
      nearest = if is_inline r.kind then k.nearest else r.kind;
      linked = among r.kind (link ∷ link_reference ∷ []) || k.linked;
      ordered = eqb r.a 1;
      kids = 0;
      broke = false;
      marker = 0;
      empty = true;
      start_number = 1;
    }

-- what is kept of a record once its child r has closed; k was kept before
unfoldable pub after_kid : Kept → Rec → Kept
after_kid k r =
    record {
      at = k.at;
      columns = k.columns;
      nearest = k.nearest;
      linked = k.linked;
      ordered = k.ordered;
      kids = k.kids + 1;
      broke = is_break r.kind;
      marker = next_marker r k.marker;
      empty = is_empty_text r && k.empty;
      start_number = start_with r k;
    }

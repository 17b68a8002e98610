-- What is kept of an open record is what its frame shows: as it opens, as a child of it closes, and to a record that opens under it.
use mathlib.Core.Path.{◌≡◌, refl, sym, ap}
use mathlib.Core.Bool.{Bool, true, false, not, ◌&&◌, ◌||◌, true≢false}
use mathlib.Core.List.{List, [], ◌∷◌, get_last_d}
use Prim.Native.Nat.{ℕ, ◌≤◌}
use native.Mathlib.Numerals.{add-one}
use native.Mathlib.Omega.{arith}
use lib.Dec.{eqb, ltb}
use lib.ListN.{length}
use borrow.Author.Tests.{eq-eqb, ne_eqb, eqb-true, ltb-true, ltb-false, le-leb}
use Rattle.std.specs.Prelude.{if◌then◌else◌}
use Rattle.leaves.specs.Text.Bytes.{between}
use Rattle.leaves.specs.Sheet.Kinds.{list, blank_line, item}
use Rattle.leaves.specs.declared.sheet.records.Rec.{Rec}
use Rattle.leaves.specs.Refusal.Fields.{most_a, most_b, most_c, is_surrogate, bad_number, bad_field}
use Rattle.leaves.proofs.text.LastLaws.{last-cons}
use Rattle.leaves.proofs.text.TestLaws.{and_left, and_right, or_left, or_right}
use Rattle.leaves.specs.Text.Marker.{written_marker}
use Rattle.leaves.specs.Refusal.Limits.{most_item_number}
use Rattle.setter.specs.Steps.{Frame, fresh, with_kid}
use Rattle.setter.specs.Seen.{columns, nearest, in_link, behind_list, only_empty, number_or_1, start_number, Seen, seen}
use Rattle.setter.specs.Stops.{Moment, opening, same_moment, Row, stops, lowest, stop_at}
use Rattle.setter.specs.Answer.{last_stop}
use Rattle.setter.specs.Kept.{marker_behind, start_behind, start_with, kept_of, seen_by, opened_in, after_kid}

-- a list's written marker is never 0
some-marker : (a b : ℕ) → eqb 0 (written_marker a b) ≡ false
unfolding written_marker
some-marker a b = go (eqb a 1) (eqb b 4) (eqb b 1) (eqb b 2)
  where
    go : (t u v w : Bool) → eqb 0 (if t then (if u then 0x29 else 0x2E) else if v then 0x2A else if w then 0x2B else 0x2D) ≡ false
    go true true v w = refl
    go true false v w = refl
    go false u true w = refl
    go false u false true = refl
    go false u false false = refl

-- the marker behind the siblings tells whether a list joins the one before it
joins-kept : (ss : List Rec) (r : Rec) → eqb (marker_behind ss) (written_marker r.a r.b) ≡ behind_list ss r
unfolding marker_behind behind_list
joins-kept [] r = some-marker r.a r.b
joins-kept (s ∷ ss) r = go (eqb s.kind blank_line) (eqb s.kind list) (joins-kept ss r)
  where
    go : (t u : Bool) → eqb (marker_behind ss) (written_marker r.a r.b) ≡ behind_list ss r → eqb (if t then marker_behind ss else if u then written_marker s.a s.b else 0) (written_marker r.a r.b) ≡ (if t then behind_list ss r else u && eqb (written_marker s.a s.b) (written_marker r.a r.b))
    go true u e = e
    go false true e = refl
    go false false e = some-marker r.a r.b

-- the start number that is kept, and the next item, tell the start number of the list
start-kept : (f : Frame) (st : List Frame) (r : Rec) → start_with r (kept_of f st) ≡ start_number f.kids r
unfolding kept_of start_behind start_number get_last_d
start-kept f st r = go f.kids
  where
    go : (ss : List Rec) → (if eqb (length ss) 0 && eqb r.b 1 then r.c else start_behind ss) ≡ start_number ss r
    go [] = refl
    go (s ∷ ss) = rw (ne_eqb (length (s ∷ ss)) 0 (λ z. omega arith)) (ap number_or_1 (sym (last-cons s r ss)))

pub seen-kept : (f g : Frame) (st : List Frame) → seen_by f.of (kept_of g st) (length f.kids) (only_empty f.kids) ≡ seen f (g ∷ st)
unfolding kept_of
seen-kept f g st = rw (joins-kept g.kids f.of, start-kept g st f.of)

pub opened-kept : (i : ℕ) (r : Rec) (f : Frame) (st : List Frame) → opened_in i r (kept_of f st) ≡ kept_of (fresh i r) (f ∷ st)
unfolding kept_of opened_in columns nearest in_link only_empty start_behind marker_behind
opened-kept i r f st = refl

pub kid-kept : (r : Rec) (f : Frame) (st : List Frame) → after_kid (kept_of f st) r ≡ kept_of (with_kid r f) st
unfolding kept_of after_kid columns nearest in_link only_empty start_behind marker_behind
kid-kept r f st = rw (add-one (length f.kids), start-kept f st r)

-- ---- a stop is one of the table: its number is 1 to `last_stop`
Small : List Row → Type 0
Small [] = Unit {0}
Small (t ∷ ts) = (t.stop ≤ last_stop) × Small ts

small-stops : Small stops
unfolding Small
small-stops = omega arith

lowest-small : (m : Moment) (bytes : List ℕ) (r : Rec) (s : Seen) (ts : List Row) → Small ts → lowest m bytes r s ts ≤ last_stop
unfolding Small
lowest-small m bytes r s [] h = omega arith
lowest-small m bytes r s (t ∷ ts) h = go (same_moment m t.moment && t.holds bytes r s) (lowest-small m bytes r s ts h.1)
  where
    go : (b : Bool) → lowest m bytes r s ts ≤ last_stop → (if b then t.stop else lowest m bytes r s ts) ≤ last_stop
    go true later = h.0
    go false later = later

pub proper-stop : (m : Moment) (bytes : List ℕ) (r : Rec) (s : Seen) {n : ℕ} → n ≡ stop_at m bytes r s → (n ≡ 0 → ⊥) → between 1 last_stop n ≡ true
unfolding stop_at
proper-stop m bytes r s {n} e h =
    let most : n ≤ last_stop = rw e (lowest-small m bytes r s stops small-stops) in
    rw (le-leb 1 n (omega arith), le-leb n last_stop most)

-- ---- an item that opens has a small number, or none
-- where the lowest of the stops is none, no row of that moment holds
module _ (m : Moment) (bytes : List ℕ) (r : Rec) (s : Seen) where
  Silent : List Row → Type 0
  Silent [] = Unit {0}
  Silent (t ∷ ts) = ((same_moment m t.moment && t.holds bytes r s) ≡ false) × Silent ts

  numbered : List Row → Bool
  numbered [] = true
  numbered (t ∷ ts) = ltb 0 t.stop && numbered ts

  silent : (ts : List Row) → numbered ts ≡ true → lowest m bytes r s ts ≡ 0 → Silent ts
  unfolding Silent numbered
  silent [] n h = tt
  silent (t ∷ ts) n h = go (same_moment m t.moment && t.holds bytes r s) refl (silent ts (and_right (ltb 0 t.stop) (numbered ts) n))
    where
      go : (b : Bool) → (same_moment m t.moment && t.holds bytes r s) ≡ b → (lowest m bytes r s ts ≡ 0 → Silent ts) → Silent (t ∷ ts)
      go true e later = let p = ltb-true 0 t.stop (and_left (ltb 0 t.stop) (numbered ts) n) in absurd (omega (arith, rw e at h))
      go false e later = (e, later (rw e at h))

-- a record that is no item has a C of at most 1
plain-small : (r : Rec) → bad_field r ≡ false → eqb r.kind item ≡ false → r.c ≤ 1
unfolding bad_field bad_number most_c
plain-small r bad e =
    let numbers : bad_number r ≡ false = or_left (bad_number r) _ (or_left _ _ (or_left _ _ bad)) in
    let most : r.c ≤ most_c r.kind r.b = ltb-false _ _ (or_right (ltb (most_a r.kind) r.a || ltb (most_b r.kind r.a) r.b) (ltb (most_c r.kind r.b) r.c) (or_left _ (is_surrogate r.kind r.a) numbers)) in
    go (eqb r.kind list) (rw e at most)
  where
    go : (t : Bool) → r.c ≤ (if t then 1 else 0) → r.c ≤ 1
    go true h = h
    go false h = omega arith

-- where it opens without a stop
pub small-number : (bytes : List ℕ) (r : Rec) (s : Seen) → stop_at opening bytes r s ≡ 0 → bad_field r ≡ false → r.b ≡ 1 → r.c ≤ most_item_number
unfolding stop_at Silent numbered
small-number bytes r s h bad e =
    let q = silent opening bytes r s stops refl h in
    let large : (eqb r.kind item && s.ordered && eqb r.b 1 && ltb most_item_number r.c) ≡ false = q.1.1.1.1.1.1.0 in
    let bullet : (eqb r.kind item && not s.ordered && eqb r.b 1) ≡ false = q.1.1.1.1.1.1.1.0 in
    let n : eqb r.b 1 ≡ true = eq-eqb r.b 1 e in
    go (eqb r.kind item) refl s.ordered refl (rw n at large) (rw n at bullet)
  where
    go : (t : Bool) → eqb r.kind item ≡ t → (o : Bool) → s.ordered ≡ o → (t && o && true && ltb most_item_number r.c) ≡ false → (t && not o && true) ≡ false → r.c ≤ most_item_number
    go false f o g x y = omega (arith, plain-small r bad f)
    go true f true g x y = ltb-false _ _ x
    go true f false g x y = absurd (true≢false y)

-- so the start number that is kept is small
pub start-small : (r : Rec) (ss : List Rec) → (r.b ≡ 1 → r.c ≤ most_item_number) → start_behind ss ≤ most_item_number → start_behind (r ∷ ss) ≤ most_item_number
unfolding start_behind start_number get_last_d
start-small r (s ∷ ss) own h = rw (last-cons s r ss) h
start-small r [] own h = go (eqb r.b 1) refl
  where
    go : (t : Bool) → eqb r.b 1 ≡ t → (if t then r.c else 1) ≤ most_item_number
    go true e = own (eqb-true _ _ e)
    go false e = omega arith

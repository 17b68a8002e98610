-- The functions of `columns`, one law for each way through.
use mathlib.Core.Path.{◌≡◌, refl, sym, ap, ◌∙◌}
use mathlib.Core.Bool.{Bool, true, false, ◌&&◌, and_assoc, and-true}
use mathlib.Core.List.{List, [], ◌∷◌, ◌++◌, append_assoc, append-nil}
use Prim.Native.Nat.{ℕ, zero, suc, ◌+◌, ◌-◌, ◌*◌, ◌<◌, ◌≤◌}
use native.Mathlib.Nat.{sub-zero}
use native.Mathlib.Numerals.{add-one}
use native.Mathlib.Omega.{arith}
use lib.Dec.{eqb, leb}
use lib.ListN.{length, get_or, set, take, drop, length-set, length-append, length-take, length-drop}
use lib.Seq.{append_snoc, get_or-take, take-nil, take-take, take_all, take-length, take-suc, take-suc-set, drop-drop, set_split}
use borrow.Author.Rules.{rules}
use borrow.Author.Tests.{ne_eqb, leb-false}
use Rattle.leaves.specs.Text.Bytes.{lf}
use Rattle.leaves.specs.Text.Part.{part_of}
use Rattle.leaves.specs.Text.Over.{over}
use Rattle.leaves.proofs.text.OverLaws.{over-fits, over-nil, length_over, over-two}
use Rattle.leaves.specs.Text.Field.{places, field, read_field}
use Rattle.leaves.specs.Text.Columns.{fields, line, line_bytes, are_fields, is_line, numbers, Writes}
use Rattle.leaves.proofs.text.FieldLaws.{field-long}
use Rattle.std.proofs.Common.{Option}
use Rattle.std.specs.Option.{is_some, unwrap_or}

-- ---- `read_line`

-- a part that is not inside is as malformed as one that is cut
field-part : (s : List ℕ) (at : ℕ) → read_field (part_of s at places) ≡ read_field (take places (drop at s))
unfolding part_of read_field
field-part s at = go (leb (at + places) (length s)) refl
  where
    go : (b : Bool) → leb (at + places) (length s) ≡ b → read_field (part_of s at places) ≡ read_field (take places (drop at s))
    go true e = rw e
    go false e =
        let short : length (take places (drop at s)) < places = simp (length-take, length-drop) (omega (arith, leb-false (at + places) (length s) e)) in
        rw (e, ne_eqb (length (take places (drop at s))) places (λ q. omega arith))

-- the first k fields are read, and what is left decides the whole
pub record Reading (s old words : List ℕ) (good : Bool) (k : ℕ) : Type 0 where
  pub inside : k ≤ length old
  pub long : length words ≡ length old
  pub fine : are_fields (length old) s ≡ good && are_fields (length old - k) (drop (k * places) s)
  pub is : numbers (length old) s ≡ take k words ++ numbers (length old - k) (drop (k * places) s)

module _ {s old words t : List ℕ} {good g : Bool} {k v : ℕ} {c : Option ℕ} (r : Reading s old words good k) (h : k < length words) where
  pub line-next : t ≡ part_of s (k * places) places → c ≡ read_field t → v ≡ unwrap_or c 0 → g ≡ is_some c → Reading s old (set words k v) (good && g) (k + 1)
  unfolding are_fields numbers
  line-next p q a b =
      let left : length old - k ≡ suc (length old - (k + 1)) = omega (arith, r.long) in
      let read : c ≡ read_field (take places (drop (k * places) s)) = q ∙ ap read_field p ∙ field-part s (k * places) in
      let place : (k + 1) * places ≡ k * places + places = omega arith in
      record {
        inside = omega (arith, r.long);
        long = length-set words k v ∙ r.long;
        fine = r.fine ∙ rw (left, ← read, ← b, drop-drop, place, and_assoc);
        is = r.is ∙ rw (left, ← read, ← a, drop-drop, place, add-one, take-suc-set words k v h) (sym (append_assoc (take k words) (v ∷ []) _));
      }

module _ {s old words : List ℕ} {good : Bool} {k : ℕ} (r : Reading s old words good k) (h : length words ≤ k) where
  all_read : k ≡ length old
  all_read = omega (arith, r.inside, r.long)

  pub line-good : {b : Bool} → b ≡ eqb (get_or s (length words * places) 0) lf → good && b ≡ is_line (length old) s
  unfolding is_line are_fields
  line-good e =
      let none : length old - k ≡ 0 = omega (arith, all_read) in
      rw (r.fine, none, and-true, ← r.long, e)

  pub line-words : words ≡ numbers (length old) s
  unfolding numbers
  line-words =
      let none : length old - k ≡ 0 = omega (arith, all_read) in
      sym (r.is ∙ rw none (append-nil (take k words) ∙ take_all k words h))

pub numbers-long : (k : ℕ) (s : List ℕ) → length (numbers k s) ≡ k
unfolding numbers
numbers-long zero s = refl
numbers-long (suc k) s = ap suc (numbers-long k (drop places s))

-- ---- `write_line`
fields-append : (ns ms : List ℕ) → fields (ns ++ ms) ≡ fields ns ++ fields ms
unfolding fields
fields-append [] ms = refl
fields-append (n ∷ ns) ms = rw (fields-append ns ms) (sym (append_assoc (field n) (fields ns) (fields ms)))

pub fields-long : (ns : List ℕ) → length (fields ns) ≡ length ns * places
unfolding fields
fields-long [] = refl
fields-long (n ∷ ns) = length-append (field n) (fields ns) ∙ omega (arith, field-long n, fields-long ns)

pub line-long : (ns : List ℕ) → length (line ns) ≡ line_bytes (length ns)
unfolding line
line-long ns = length-append (fields ns) (lf ∷ []) ∙ omega (arith, fields-long ns)

-- the first i numbers are written
pub record Writing (old ns out : List ℕ) (at end i : ℕ) : Type 0 where
  pub inside : i ≤ length ns
  pub long : length out ≡ length old
  pub place : end ≡ at + i * places
  pub is : out ≡ over old at (fields (take i ns))

pub write-start : (old ns : List ℕ) (at : ℕ) → at + line_bytes (length ns) ≤ length old → Writing old ns old at at 0
unfolding fields
write-start old ns at h = record { inside = omega arith; long = refl; place = omega arith; is = sym (over-nil old at) }

module _ {old ns out : List ℕ} {at end i : ℕ} (w : Writing old ns out at end i) (room : at + line_bytes (length ns) ≤ length old) where
  module _ (h : i < length ns) where
    -- the next field, and behind it the rest, have room
    pub write-room : end + places ≤ length out
    write-room = omega (arith, w.place, w.long)

    pub write-next : {new : List ℕ} → new ≡ over out end (field (get_or ns i 0)) → Writing old ns new at (end + places) (i + 1)
    unfolding fields
    write-next {new} e =
        let k : length (fields (take i ns)) ≡ i * places = fields-long (take i ns) ∙ simp length-take (omega arith) in
        let z : end ≡ at + length (fields (take i ns)) = omega (arith, w.place) in
        let f : length (field (get_or ns i 0)) ≡ places = field-long (get_or ns i 0) in
        let next : fields (take (i + 1) ns) ≡ fields (take i ns) ++ field (get_or ns i 0) = rw (add-one, take-suc ns i 0 h) (fields-append (take i ns) (get_or ns i 0 ∷ []) ∙ rw append-nil) in
        record {
          inside = omega arith;
          long = rw e (length_over out end (field (get_or ns i 0)) ∙ w.long);
          place = omega (arith, w.place);
          is = e ∙ rw (z, w.is, next) (over-two old (fields (take i ns)) (field (get_or ns i 0)) at (omega arith));
        }

  -- LF behind the last field
  module _ (h : length ns ≤ i) where
    all-written : i ≡ length ns
    all-written = omega (arith, w.inside)

    pub write-last : end < length out
    write-last = omega (arith, w.place, w.long, all-written)

    pub write-end : Writes old at (line ns) (set out end lf) (end + 1)
    unfolding line
    write-end =
        let k : length (fields ns) ≡ length ns * places = fields-long ns in
        let z : end ≡ at + length (fields ns) = omega (arith, w.place, all-written) in
        let is : out ≡ over old at (fields ns) = rw (all-written, take-length) at w.is in
        let one : set out end lf ≡ over out end (lf ∷ []) = set_split out end lf write-last ∙ sym (over-fits out end (lf ∷ []) (omega (arith, write-last)) ∙ rw add-one (append_snoc (take end out) lf (drop (suc end) out))) in
        record { written = one ∙ rw (z, is) (over-two old (fields ns) (lf ∷ []) at (omega arith)); next_is = omega (arith, line-long ns) }

pub ruleset inking = (write-start, write-room, write-next, write-last, write-end, rules)

-- ---- a line is decided by its own bytes: what is cut off behind them says nothing
pub drop-take : (n k : ℕ) (s : List ℕ) → n ≤ k → drop n (take k s) ≡ take (k - n) (drop n s)
drop-take zero k s h = rw sub-zero
drop-take (suc n) zero s h = absurd (omega arith)
drop-take (suc n) (suc k) [] h = sym (take-nil (suc k - suc n))
drop-take (suc n) (suc k) (x ∷ s) h = let e : suc k - suc n ≡ k - n = omega arith in rw e (drop-take n k s (omega arith))

module _ (m : ℕ) (s : List ℕ) (h : places ≤ m) where
  first-take : take places (take m s) ≡ take places s
  first-take = take-take places m s h

  rest-take : drop places (take m s) ≡ take (m - places) (drop places s)
  rest-take = drop-take places m s h

are-take : (k m : ℕ) (s : List ℕ) → k * places ≤ m → are_fields k (take m s) ≡ are_fields k s
unfolding are_fields
are-take zero m s h = refl
are-take (suc k) m s h = rw (first-take m s (omega arith), rest-take m s (omega arith), are-take k (m - places) (drop places s) (omega arith))

pub numbers-take : (k m : ℕ) (s : List ℕ) → k * places ≤ m → numbers k (take m s) ≡ numbers k s
unfolding numbers
numbers-take zero m s h = refl
numbers-take (suc k) m s h = rw (first-take m s (omega arith), rest-take m s (omega arith), numbers-take k (m - places) (drop places s) (omega arith))

pub line-take : (k m : ℕ) (s : List ℕ) → line_bytes k ≤ m → is_line k (take m s) ≡ is_line k s
unfolding is_line
line-take k m s h = rw (are-take k m s (omega arith), get_or-take m s (k * places) 0 (omega arith))

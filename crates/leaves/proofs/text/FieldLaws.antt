-- The functions of `field`, one law for each way through, and that a field is read as the number that it is written from.
use mathlib.Core.Path.{◌≡◌, refl, sym, ◌∙◌}
use mathlib.Core.Bool.{Bool, true, false, not}
use mathlib.Core.List.{List, [], ◌∷◌, ◌++◌, append_assoc, append-nil}
use Prim.Native.Nat.{ℕ, zero, suc, ◌+◌, ◌-◌, ◌*◌, ◌/◌, ◌%◌, ◌<◌, ◌≤◌}
use native.Mathlib.Nat.{le_refl}
use native.Mathlib.Omega.{arith}
use lib.Dec.{eqb}
use lib.ListN.{length, get_or, set, take, drop, length-set, length-append, length-take, length-drop}
use lib.Seq.{drop-cons, drop-drop, drop-length, set_at, drop-set-lt, get_or-set_same}
use borrow.Author.Rules.{rules}
use borrow.Rule.Slice.PartMut.{put_mid}
use borrow.Author.Tests.{le-leb, lt-leb}
use Rattle.std.specs.List.{position_or_len}
use Rattle.leaves.specs.Text.Bytes.{space, is_digit}
use Rattle.leaves.proofs.text.ScanLaws.{ScanAt, turn, stop, end}
use Rattle.leaves.specs.Text.Over.{over}
use Rattle.leaves.proofs.text.OverLaws.{over-fits}
use Rattle.leaves.specs.Text.Field.{places, most_number, digit_zero, digit, last_place, front, field, past_spaces, read_digits}
use Rattle.std.proofs.Common.{None, Option, Some}

-- ---- `past_spaces`: what stands from the first byte on that is no space
pub spaces_cut : (s : List ℕ) → drop (position_or_len (λ b. not (eqb b space)) s) s ≡ past_spaces s
unfolding past_spaces
spaces_cut [] = refl
spaces_cut (b ∷ s) = go (eqb b space) refl (spaces_cut s)
  where
    go : (t : Bool) → eqb b space ≡ t → drop (position_or_len (λ x. not (eqb x space)) s) s ≡ past_spaces s → drop (position_or_len (λ x. not (eqb x space)) (b ∷ s)) (b ∷ s) ≡ past_spaces (b ∷ s)
    go true e h = let z : 1 + position_or_len (λ x. not (eqb x space)) s ≡ suc (position_or_len (λ x. not (eqb x space)) s) = omega arith in rw (e, z) h
    go false e h = rw e

-- ---- `read_digits`: n is the number of the digits passed
pub record Digits (s : List ℕ) (n i : ℕ) : Type 0 where
  pub at : ScanAt (read_digits 0 s) (read_digits n) s i
  pub small : n ≤ most_number

pub digits-start : (s : List ℕ) → Digits s 0 0
digits-start s = record { at = record { within = omega arith; same = refl }; small = omega arith }

module _ {s : List ℕ} {n i : ℕ} (d : Digits s n i) (h : i < length s) {r : Bool} (is : r ≡ is_digit (get_or s i 0)) where
  pub digits-bad : r ≡ false → None ≡ read_digits 0 s
  unfolding read_digits
  digits-bad f = let g : is_digit (get_or s i 0) ≡ false = sym is ∙ f in stop h d.at (rw g)

  module _ (f : r ≡ true) where
    digit-is : is_digit (get_or s i 0) ≡ true
    digit-is = sym is ∙ f

    pub digits-large : most_number < n * 10 + (get_or s i 0 - digit_zero) → None ≡ read_digits 0 s
    unfolding read_digits
    digits-large l = stop h d.at (rw (digit-is, lt-leb _ _ l))

    pub digits-next : {m : ℕ} → m ≡ n * 10 + (get_or s i 0 - digit_zero) → m ≤ most_number → Digits s m (i + 1)
    unfolding read_digits
    digits-next e l = rw e (record { at = turn h d.at (rw (digit-is, le-leb _ _ (rw e at l))); small = rw e at l })

pub digits-end : {s : List ℕ} {n i : ℕ} → Digits s n i → length s ≤ i → Some n ≡ read_digits 0 s
unfolding read_digits
digits-end d h = end h d.at refl

pub ruleset digits = (digits-start, digits-bad, digits-end, rules)

-- ---- `put_front`

-- the places from i on have been filled, and `rest` is left of the number n
pub record Filling (old : List ℕ) (n : ℕ) (cells : List ℕ) (rest i : ℕ) : Type 0 where
  pub inside : i ≤ length cells
  pub long : length cells ≡ length old
  pub is : front (length old) n ≡ front i rest ++ drop i cells

pub fill_start : (old : List ℕ) (n : ℕ) → Filling old n old n (length old)
fill_start old n = record { inside = le_refl _; long = refl; is = rw drop-length (sym (append-nil _)) }

-- the last place that is left
fill_is : (cells : List ℕ) (rest j : ℕ) → j < length cells → front (suc j) rest ++ drop (suc j) cells ≡ front j (rest / 10) ++ drop j (set cells j (last_place rest))
unfolding front
fill_is cells rest j h =
    let more : j < length (set cells j (last_place rest)) = simp length-set h in
    let d : drop j (set cells j (last_place rest)) ≡ last_place rest ∷ drop (suc j) cells = rw (drop-cons (set cells j (last_place rest)) j 0 more, get_or-set_same cells j (last_place rest) 0 h, drop-set-lt (suc j) cells j (last_place rest) (omega arith)) in
    append_assoc (front j (rest / 10)) (last_place rest ∷ []) (drop (suc j) cells) ∙ rw d

pub fill-next : {old cells : List ℕ} {n rest i p : ℕ} → Filling old n cells rest i → 0 < i → p ≡ last_place rest → Filling old n (set cells (i - 1) p) (rest / 10) (i - 1)
fill-next {i = zero} f h e = absurd (omega arith)
fill-next {old = old} {cells = cells} {n = n} {rest = rest} {i = suc j} f h e =
    let z : suc j - 1 ≡ j = omega arith in
    rw (z, e) (record { inside = simp length-set (omega arith); long = simp length-set f.long; is = f.is ∙ fill_is cells rest j (omega arith) })

pub fill_end : {old cells : List ℕ} {n rest i : ℕ} → Filling old n cells rest i → i ≤ 0 → cells ≡ front (length old) n
unfolding front
fill_end {old} {cells} {n} {rest} {i} f h = let z : i ≡ 0 = omega arith in sym (rw z at f.is)

pub ruleset writing = (fill_start, fill-next, fill_end, rules)

-- ---- `write_field`: what stands before the last place, and the last digit

-- k places are k bytes
pub front_long : (k n : ℕ) → length (front k n) ≡ k
unfolding front
front_long zero n = refl
front_long (suc k) n = length-append (front k (n / 10)) (last_place n ∷ []) ∙ omega (arith, front_long k (n / 10))

pub field-long : (n : ℕ) → length (field n) ≡ places
unfolding field
field-long n = length-append (front 10 (n / 10)) (digit (n % 10) ∷ []) ∙ omega (arith, front_long 10 (n / 10))

pub field_put : (x y : List ℕ) (at n : ℕ) → at + places ≤ length x → y ≡ front (length (take (at + 10 - at) (drop at x))) (n / 10) → set (put_mid at (at + 10 - at) x y) (at + 10) (digit_zero + n % 10) ≡ over x at (field n)
unfolding field
field_put x y at n room e =
    let ten : at + 10 - at ≡ 10 = omega arith in
    let k : length (take (at + 10 - at) (drop at x)) ≡ 10 = rw ten (simp (length-take, length-drop) (omega arith)) in
    let y-is : y ≡ front 10 (n / 10) = rw k at e in
    let behind : drop 10 (drop at x) ≡ get_or x (at + 10) 0 ∷ drop (suc (at + 10)) x = drop-drop 10 at x ∙ drop-cons x (at + 10) 0 (omega arith) in
    let p-long : length (take at x ++ front 10 (n / 10)) ≡ at + 10 = simp (length-append, length-take) (omega (arith, front_long 10 (n / 10))) in
    let back : set (put_mid at (at + 10 - at) x y) (at + 10) (digit (n % 10)) ≡ (take at x ++ front 10 (n / 10)) ++ digit (n % 10) ∷ drop (suc (at + 10)) x =
    rw (ten, y-is, behind, ← append_assoc (take at x) (front 10 (n / 10)) (get_or x (at + 10) 0 ∷ drop (suc (at + 10)) x)) (set_at (take at x ++ front 10 (n / 10)) _ _ (digit (n % 10)) (at + 10) p-long) in
    let long : at + length (field n) ≡ suc (at + 10) = omega (arith, field-long n) in
    back ∙ sym (over-fits x at (field n) (omega (arith, field-long n)) ∙ rw long (simp append_assoc))

-- Lines, a byte at a time: the first, the last as the code reads it, and the CR of a CRLF.
use mathlib.Core.Path.{◌≡◌, refl, sym, ap, ◌∙◌}
use mathlib.Core.Bool.{Bool, true, false, not, ◌&&◌, ◌||◌, and_assoc, and-true, and-false, false≢true}
use mathlib.Core.List.{List, [], ◌∷◌, get_last_d, head_d}
use Prim.Native.Nat.{ℕ, zero, suc, ◌+◌, ◌<◌, ◌≤◌, zero-le}
use native.Mathlib.Nat.{le_of_suc-le-suc, not-suc-le-zero}
use native.Mathlib.Omega.{arith}
use lib.Dec.{eqb}
use lib.ListN.{length, get_or, drop, length-drop, drop_of_length-le}
use borrow.Author.Tests.{eqb-true, ne_eqb}
use Rattle.leaves.specs.Text.Bytes.{tab, lf, cr, space, is_blank_byte, is_line_ending_byte}
use Rattle.std.specs.Prelude.{if◌then◌else◌}
use Rattle.leaves.specs.Text.Lines.{starts_with, longer, is_cr_of_crlf, lines, is_blank}
use Rattle.std.specs.List.{position_or_len}
use Rattle.leaves.specs.Text.Edges.{has_blank_edge_line}
use Rattle.leaves.specs.Text.EdgeScans.{last_blank, Led, Solid}
use Rattle.leaves.proofs.text.ScanLaws.{next}
use Rattle.leaves.proofs.text.TestLaws.{and_right, or_left, or_right}
use Rattle.leaves.proofs.text.LastLaws.{last-cons}

module _ (b : ℕ) (s : List ℕ) where
  pub lines-skip : is_cr_of_crlf b s ≡ true → lines (b ∷ s) ≡ lines s
  unfolding lines
  lines-skip e = rw e

  pub lines_end : is_cr_of_crlf b s ≡ false → is_line_ending_byte b ≡ true → lines (b ∷ s) ≡ [] ∷ lines s
  unfolding lines
  lines_end e f = rw (e, f)

  pub lines-hold : is_cr_of_crlf b s ≡ false → is_line_ending_byte b ≡ false → lines (b ∷ s) ≡ longer b (lines s)
  unfolding lines
  lines-hold e f = rw (e, f)

-- a byte that is no line ending is no CR, and neither is an LF
no-cr : (b : ℕ) (s : List ℕ) → is_line_ending_byte b ≡ false → is_cr_of_crlf b s ≡ false
unfolding is_cr_of_crlf
no-cr b s e = rw (or_right (eqb b lf) (eqb b cr) e)

lf-no-cr : (b : ℕ) (s : List ℕ) → eqb b lf ≡ true → is_cr_of_crlf b s ≡ false
unfolding is_cr_of_crlf
lf-no-cr b s e = rw (eqb-true b lf e)

-- and a blank byte is no line ending
blank-holds : (b : ℕ) → is_blank_byte b ≡ true → is_line_ending_byte b ≡ false
blank-holds b e = go (eqb b space) refl
  where
    go : (t : Bool) → eqb b space ≡ t → is_line_ending_byte b ≡ false
    go true p = rw (eqb-true b space p)
    go false p = rw (eqb-true b tab (rw p at e))

-- ---- the first line
unfoldable pub first_blank : List ℕ → Bool
first_blank s = is_blank (head_d (lines s) [])

lf-first : (s : List ℕ) → starts_with lf s ≡ true → true ≡ first_blank s
unfolding first_blank starts_with head_d is_blank
lf-first [] e = absurd (false≢true e)
lf-first (b ∷ s) e = rw (lines_end b s (lf-no-cr b s e) (ap (λ t. t || eqb b cr) e))

module _ (b : ℕ) (s : List ℕ) {ends : Bool} (e : ends ≡ is_line_ending_byte b) where
  pub first_ends : ends ≡ true → true ≡ first_blank (b ∷ s)
  unfolding first_blank head_d is_blank is_cr_of_crlf
  first_ends y = go (is_cr_of_crlf b s) refl
    where
      go : (t : Bool) → is_cr_of_crlf b s ≡ t → true ≡ first_blank (b ∷ s)
      go true p = rw (lines-skip b s p) (lf-first s (and_right (eqb b cr) (starts_with lf s) p))
      go false p = rw (lines_end b s p (sym e ∙ y))

  longer-first : (ls : List (List ℕ)) → is_blank (head_d (longer b ls) []) ≡ (is_blank_byte b && is_blank (head_d ls []))
  unfolding head_d longer is_blank
  longer-first [] = refl
  longer-first (l ∷ ls) = refl

  first_holds : ends ≡ false → first_blank (b ∷ s) ≡ (is_blank_byte b && first_blank s)
  unfolding first_blank
  first_holds n = rw (lines-hold b s (no-cr b s (sym e ∙ n)) (sym e ∙ n)) (longer-first (lines s))

  pub first-blank : {r : Bool} → ends ≡ false → r ≡ is_blank_byte b → r ≡ true → first_blank (b ∷ s) ≡ first_blank s
  first-blank n f y = first_holds n ∙ rw (← f, y)

  pub first-solid : {r : Bool} → ends ≡ false → r ≡ is_blank_byte b → r ≡ false → false ≡ first_blank (b ∷ s)
  first-solid n f o = sym (first_holds n ∙ rw (← f, o))

pub first-none : true ≡ first_blank []
unfolding first_blank head_d lines is_blank
first-none = refl

-- ---- the last line: w is of the line before, `blank` of what is read of the first
abbrev last_is : Bool → List (List ℕ) → Bool
last_is w [] = w
last_is w (l ∷ ls) = last_is (is_blank l) ls

abbrev last_from : Bool → Bool → List (List ℕ) → Bool
last_from last blank [] = last
last_from last blank (l ∷ ls) = last_is (blank && is_blank l) ls

last-is : (l : List ℕ) (ls : List (List ℕ)) → last_is (is_blank l) ls ≡ is_blank (get_last_d ls l)
unfolding get_last_d
last-is l [] = refl
last-is l (m ∷ ls) = last-is m ls ∙ ap is_blank (sym (last-cons m l ls))

from_start : (ls : List (List ℕ)) → last_from true true ls ≡ is_blank (get_last_d ls [])
unfolding get_last_d is_blank
from_start [] = refl
from_start (l ∷ ls) = last-is l ls ∙ ap is_blank (sym (last-cons l [] ls))

last-ends : (last blank : Bool) (ls : List (List ℕ)) → last_from blank true ls ≡ last_from last blank ([] ∷ ls)
unfolding is_blank
last-ends last blank [] = sym (and-true blank)
last-ends last blank (l ∷ ls) = refl

last-holds : (last blank : Bool) (b : ℕ) (ls : List (List ℕ)) → last_from (blank && is_blank_byte b) (blank && is_blank_byte b) ls ≡ last_from last blank (longer b ls)
unfolding longer is_blank
last-holds last blank b [] = ap (λ t. blank && t) (sym (and-true (is_blank_byte b)))
last-holds last blank b (l ∷ ls) = ap (λ t. last_is t ls) (and_assoc blank (is_blank_byte b) (is_blank l))

last-lines : (last blank : Bool) (s : List ℕ) → last_blank last blank s ≡ last_from last blank (lines s)
unfolding last_blank lines
last-lines last blank [] = refl
last-lines last blank (b ∷ s) = go (is_cr_of_crlf b s) (is_line_ending_byte b) refl refl (last-lines last blank s) (last-lines blank true s) (last-lines (blank && is_blank_byte b) (blank && is_blank_byte b) s)
  where
    go : (t u : Bool) → is_cr_of_crlf b s ≡ t → is_line_ending_byte b ≡ u → last_blank last blank s ≡ last_from last blank (lines s) → last_blank blank true s ≡ last_from blank true (lines s) → last_blank (blank && is_blank_byte b) (blank && is_blank_byte b) s ≡ last_from (blank && is_blank_byte b) (blank && is_blank_byte b) (lines s) → last_blank last blank (b ∷ s) ≡ last_from last blank (lines (b ∷ s))
    go true u p q x y z = rw p x
    go false true p q x y z = rw (p, q) (y ∙ last-ends last blank (lines s))
    go false false p q x y z = rw (p, q) (z ∙ last-holds last blank b (lines s))

pub last_line : (s : List ℕ) → is_blank (get_last_d (lines s) []) ≡ last_blank true true s
last_line s = sym (last-lines true true s ∙ from_start (lines s))

-- a turn of the loop: the CR of a CRLF, the end of a line, a byte of one
module _ (last blank : Bool) (b : ℕ) (s : List ℕ) where
  pub last-skip : is_cr_of_crlf b s ≡ true → last_blank last blank (b ∷ s) ≡ last_blank last blank s
  unfolding last_blank
  last-skip y = rw y

  module _ (n : is_cr_of_crlf b s ≡ false) where
    pub last-end : is_line_ending_byte b ≡ true → last_blank last blank (b ∷ s) ≡ last_blank blank true s
    unfolding last_blank
    last-end e = rw (n, e)

    pub last-in : is_line_ending_byte b ≡ false → last_blank last blank (b ∷ s) ≡ last_blank (blank && is_blank_byte b) (blank && is_blank_byte b) s
    unfolding last_blank
    last-in e = rw (n, e)

pub last_none : (last blank : Bool) → last ≡ last_blank last blank []
unfolding last_blank
last_none last blank = refl

-- ---- the bytes before the first that is not blank
-- a blank byte changes neither
last-blank : (b : ℕ) (s : List ℕ) {r : Bool} → r ≡ is_blank_byte b → r ≡ true → last_blank true true (b ∷ s) ≡ last_blank true true s
unfolding last_blank
last-blank b s e y =
    let n : is_line_ending_byte b ≡ false = blank-holds b (sym e ∙ y) in
    rw (no-cr b s n, n, ← e, y)

record Cut (s : List ℕ) (at : ℕ) : Type 0 where
  within : at ≤ length s
  first : first_blank s ≡ first_blank (drop at s)
  last : last_blank true true s ≡ last_blank true true (drop at s)
  solid : at < length s → is_blank_byte (get_or s at 0) ≡ false

blanks : List ℕ → ℕ
blanks s = position_or_len (λ b. not (is_blank_byte b)) s

cut : (s : List ℕ) → Cut s (blanks s)
unfolding blanks
cut [] = record { within = omega arith; first = refl; last = refl; solid = λ h. absurd (omega arith) }
cut (b ∷ s) = go (is_blank_byte b) refl (cut s)
  where
    go : (t : Bool) → is_blank_byte b ≡ t → Cut s (blanks s) → Cut (b ∷ s) (blanks (b ∷ s))
    go true e c =
        let z : 1 + blanks s ≡ suc (blanks s) = omega arith in
        rw (e, z) (record { within = omega (arith, c.within); first = first-blank b s refl (blank-holds b e) refl e ∙ c.first; last = last-blank b s refl e ∙ c.last; solid = λ h. c.solid (omega arith) })
    go false e c = rw e (record { within = omega arith; first = refl; last = refl; solid = λ h. e })

pub led : (s : List ℕ) {at : ℕ} → at ≡ position_or_len (λ b. not (is_blank_byte b)) s → Led s at
unfolding blanks first_blank
led s {at} e = let c = cut s in rw e (record { within = c.within; first = c.first; last = last_line s ∙ c.last; solid = c.solid })

-- ---- from the back: what stands before a byte that is neither blank nor a line ending tells nothing
last-at-solid : (last blank : Bool) (b : ℕ) (s : List ℕ) → is_blank_byte b ≡ false → is_line_ending_byte b ≡ false → last_blank last blank (b ∷ s) ≡ last_blank false false s
unfolding last_blank
last-at-solid last blank b s o n = rw (no-cr b s n, n, o, and-false)

last_step : (last blank : Bool) (b : ℕ) (s : List ℕ) → last_blank last blank (b ∷ s) ≡ last_blank (if is_cr_of_crlf b s then last else if is_line_ending_byte b then blank else (blank && is_blank_byte b)) (if is_cr_of_crlf b s then blank else (is_line_ending_byte b || (blank && is_blank_byte b))) s
unfolding last_blank
last_step last blank b s = refl

last-after-solid : (s : List ℕ) (at i : ℕ) (last blank : Bool) → at ≤ i → i < length s → is_blank_byte (get_or s i 0) ≡ false → is_line_ending_byte (get_or s i 0) ≡ false → last_blank last blank (drop at s) ≡ last_blank false false (drop (suc i) s)
last-after-solid [] at i last blank g h o n = absurd (not-suc-le-zero h)
last-after-solid (b ∷ s) zero zero last blank g h o n = last-at-solid last blank b s o n
last-after-solid (b ∷ s) (suc at) zero last blank g h o n = absurd (not-suc-le-zero g)
last-after-solid (b ∷ s) (suc at) (suc i) last blank g h o n = last-after-solid s at i last blank (le_of_suc-le-suc g) (le_of_suc-le-suc h) o n
last-after-solid (b ∷ s) zero (suc i) last blank g h o n = last_step last blank b s ∙ last-after-solid s zero i _ _ zero-le (le_of_suc-le-suc h) o n

solid-same : (s : List ℕ) (i : ℕ) → Solid s i → last_blank true true s ≡ last_blank true true (drop i s)
solid-same s zero d = refl
solid-same s (suc i) d =
    let f = d.firm (omega arith) in
    let o : is_blank_byte (get_or s (suc i) 0) ≡ false = or_left (is_blank_byte (get_or s (suc i) 0)) (is_line_ending_byte (get_or s (suc i) 0)) f.1 in
    let m : is_line_ending_byte (get_or s (suc i) 0) ≡ false = or_right (is_blank_byte (get_or s (suc i) 0)) (is_line_ending_byte (get_or s (suc i) 0)) f.1 in
    last-after-solid s zero (suc i) true true zero-le f.0 o m ∙ sym (last-after-solid s (suc i) (suc i) true true (omega arith) f.0 o m)

-- ---- either line: t is what stands behind the blanks in front
module _ (s : List ℕ) (at : ℕ) (v : Led s at) (t : List ℕ) (is : t ≡ drop at s) where
  either : (b : Bool) → first_blank t ≡ b → has_blank_edge_line s ≡ (b || last_blank true true t)
  unfolding has_blank_edge_line first_blank
  either b e = rw (v.first, v.last, ← is, e)

  pub edge_none : length t < 1 → true ≡ has_blank_edge_line s
  edge_none h = sym (either true (go t h))
    where
      go : (u : List ℕ) → length u < 1 → first_blank u ≡ true
      go [] k = sym first-none
      go (b ∷ u) k = absurd (omega arith)

  module _ (h : 1 ≤ length t) {r : Bool} (e : r ≡ is_line_ending_byte (get_or t 0 0)) where
    pub edge-first : r ≡ true → r ≡ has_blank_edge_line s
    edge-first y = y ∙ sym (either true (sym (rw (next t 0 h) (first_ends (get_or t 0 0) (drop 1 t) e y))))

    pub edge-last : {q : Bool} {i : ℕ} → r ≡ false → Solid t i → q ≡ last_blank true true (drop i t) → q ≡ has_blank_edge_line s
    edge-last {i = i} n d f =
        let inside : at < length s = omega (arith, length-drop at s, ap length is) in
        let here : get_or t 0 0 ≡ get_or s at 0 = rw (is, next s at inside) refl in
        let solid : is_blank_byte (get_or t 0 0) ≡ false = rw here (v.solid inside) in
        f ∙ sym (solid-same t i d) ∙ sym (either false (sym (rw (next t 0 h) (first-solid (get_or t 0 0) (drop 1 t) e n refl solid))))

-- ---- the CR of a CRLF
pub crlf_other : (b : ℕ) (s : List ℕ) → (b ≡ cr → ⊥) → is_cr_of_crlf b s ≡ false
unfolding is_cr_of_crlf
crlf_other b s n = rw (ne_eqb b cr n)

pub crlf_short : (s : List ℕ) (i : ℕ) → length s ≤ i + 1 → is_cr_of_crlf (get_or s i 0) (drop (i + 1) s) ≡ false
unfolding is_cr_of_crlf starts_with
crlf_short s i h = rw (drop_of_length-le s {i = i + 1} h) (and-false (eqb (get_or s i 0) cr))

pub crlf_long : (s : List ℕ) (i : ℕ) → i + 1 < length s → is_cr_of_crlf (get_or s i 0) (drop (i + 1) s) ≡ (eqb (get_or s i 0) cr && eqb (get_or s (i + 1) 0) lf)
unfolding is_cr_of_crlf starts_with
crlf_long s i h = rw (next s (i + 1) h)

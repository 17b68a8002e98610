-- A title is itself when trimmed exactly where neither of its ends is blank.
use mathlib.Core.Path.{◌≡◌, refl, ◌∙◌, sym}
use mathlib.Core.Bool.{Bool, true, false, not, ◌&&◌, and-false}
use mathlib.Core.List.{List, [], ◌∷◌, get_last_d}
use Prim.Native.Nat.{ℕ, suc, ◌-◌, ◌<◌, ◌≤◌}
use native.Mathlib.Omega.{arith}
use lib.Dec.{eqb}
use borrow.Author.Tests.{eq-eqb}
use lib.ListN.{length, get_or}
use Rattle.leaves.specs.Text.Bytes.{is_blank_byte}
use Rattle.leaves.specs.Text.Over.{is_empty_list}
use Rattle.leaves.specs.Text.Same.{same_bytes}
use Rattle.leaves.specs.Text.Title.{is_alert_title}
use Rattle.leaves.specs.Text.Trim.{trim_cons, trim_end, trim_start, trim}
use Rattle.leaves.proofs.text.LastLaws.{last-cons}

same_self : (s : List ℕ) → same_bytes s s ≡ true
unfolding same_bytes
same_self [] = refl
same_self (b ∷ s) = rw (eq-eqb b b refl) (same_self s)

-- a shorter list is another
shorter : (s t : List ℕ) → length s < length t → same_bytes s t ≡ false
unfolding same_bytes
shorter [] [] h = absurd (omega arith)
shorter [] (y ∷ t) h = refl
shorter (x ∷ s) [] h = absurd (omega arith)
shorter (x ∷ s) (y ∷ t) h = rw (shorter s t (omega arith)) (and-false (eqb x y))

cons-length : (b : ℕ) (s : List ℕ) → length (trim_cons b s) ≤ suc (length s)
unfolding trim_cons
cons-length b [] = go (is_blank_byte b) refl
  where
    go : (t : Bool) → is_blank_byte b ≡ t → length (trim_cons b []) ≤ 1
    go true e = rw e (omega arith)
    go false e = rw e (omega arith)
cons-length b (x ∷ s) = omega arith

start-length : (s : List ℕ) → length (trim_start s) ≤ length s
unfolding trim_start
start-length [] = omega arith
start-length (b ∷ s) = go (is_blank_byte b) refl (start-length s)
  where
    go : (t : Bool) → is_blank_byte b ≡ t → length (trim_start s) ≤ length s → length (trim_start (b ∷ s)) ≤ suc (length s)
    go true e h = rw e (omega arith)
    go false e h = rw e (omega arith)

end_kept : (b : ℕ) (s : List ℕ) → is_blank_byte (get_last_d s b) ≡ false → trim_end (b ∷ s) ≡ b ∷ s
unfolding trim_end trim_cons get_last_d
end_kept b [] e = rw e
end_kept b (x ∷ s) e = rw (end_kept x s (rw (last-cons x b s) at e))

end-cut : (b : ℕ) (s : List ℕ) → is_blank_byte (get_last_d s b) ≡ true → length (trim_end (b ∷ s)) < length (b ∷ s)
unfolding trim_end trim_cons get_last_d
end-cut b [] e = rw e (omega arith)
end-cut b (x ∷ s) e = omega (arith, cons-length b (trim_end (x ∷ s)), end-cut x s (rw (last-cons x b s) at e))

last-at : (b : ℕ) (s : List ℕ) → get_or (b ∷ s) (length s) 0 ≡ get_last_d s b
unfolding get_last_d
last-at b [] = refl
last-at b (x ∷ s) = last-at x s ∙ sym (last-cons x b s)

title : (b : ℕ) (s : List ℕ) → same_bytes (trim (b ∷ s)) (b ∷ s) ≡ (not (is_blank_byte b) && not (is_blank_byte (get_last_d s b)))
unfolding trim trim_start
title b s = go (is_blank_byte b) (is_blank_byte (get_last_d s b)) refl refl
  where
    go : (t u : Bool) → is_blank_byte b ≡ t → is_blank_byte (get_last_d s b) ≡ u → same_bytes (trim_start (trim_end (b ∷ s))) (b ∷ s) ≡ (not t && not u)
    go false false e f = rw (end_kept b s f, e) (same_self (b ∷ s))
    go true false e f = rw (end_kept b s f, e) (shorter (trim_start s) (b ∷ s) (omega (arith, start-length s)))
    go false true e f = shorter _ _ (omega (arith, start-length (trim_end (b ∷ s)), end-cut b s f))
    go true true e f = shorter _ _ (omega (arith, start-length (trim_end (b ∷ s)), end-cut b s f))

pub title_none : (s : List ℕ) → length s ≡ 0 → is_alert_title s ≡ false
unfolding is_alert_title is_empty_list
title_none [] e = refl
title_none (b ∷ s) e = absurd (omega arith)

pub title_some : (s : List ℕ) → 0 < length s → is_alert_title s ≡ (not (is_blank_byte (get_or s 0 0)) && not (is_blank_byte (get_or s (length s - 1) 0)))
unfolding is_alert_title is_empty_list
title_some [] h = absurd (omega arith)
title_some (b ∷ s) h = rw at-end (title b s)
  where
    at-end : get_or (b ∷ s) (suc (length s) - 1) 0 ≡ get_last_d s b
    at-end =
        let e : suc (length s) - 1 ≡ length s = omega arith in
        rw e (last-at b s)

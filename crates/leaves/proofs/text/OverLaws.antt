-- Writing over a part of a list.
use mathlib.Core.Path.{◌≡◌, refl, sym, ◌∙◌}
use mathlib.Core.Bool.{Bool, true, false}
use mathlib.Core.List.{List, [], ◌++◌, append_assoc}
use Prim.Native.Nat.{ℕ, ◌+◌, ◌≤◌, ◌<◌}
use native.Mathlib.Nat.{add_assoc}
use native.Mathlib.Omega.{arith}
use lib.Dec.{leb}
use lib.ListN.{length, take, drop, length-append, length-take, length-drop}
use lib.Seq.{paste-zero, take_at, drop_at, drop-drop}
use borrow.Author.Tests.{leb-true, leb-false, le-leb, lt-leb}
use Rattle.leaves.specs.Text.Over.{over}

module _ (w : List ℕ) (at : ℕ) (e : List ℕ) where
  pub over-fits : at + length e ≤ length w → over w at e ≡ take at w ++ e ++ drop (at + length e) w
  unfolding over
  over-fits h = rw (le-leb _ _ h)

  pub over-not : length w < at + length e → over w at e ≡ w
  unfolding over
  over-not h = rw (lt-leb _ _ h)

  pub length_over : length (over w at e) ≡ length w
  unfolding over
  length_over = go (leb (at + length e) (length w)) refl
    where
      go : (b : Bool) → leb (at + length e) (length w) ≡ b → length (over w at e) ≡ length w
      go true h = rw h (simp (length-append, length-take, length-drop) (omega (arith, leb-true)))
      go false h = rw h

-- words written in two goes, the second behind the first, are written whole
pub over-two : (w h p : List ℕ) (at : ℕ) → at + (length h + length p) ≤ length w → over (over w at h) (at + length h) p ≡ over w at (h ++ p)
over-two w h p at fits =
    let x = over w at h in
    let is : x ≡ take at w ++ h ++ drop (at + length h) w = over-fits w at h (omega arith) in
    let l : length x ≡ length w = length_over w at h in
    let k : length (h ++ p) ≡ length h + length p = length-append h p in
    let n : length (take at w ++ h) ≡ at + length h = simp (length-append, length-take) (omega arith) in
    let front : take (at + length h) x ≡ take at w ++ h = rw is (take_at (take at w ++ h) _ _ n) in
    let back : drop (at + length h) x ≡ drop (at + length h) w = rw is (drop_at (take at w ++ h) _ _ n) in
    let rest : drop (at + length h + length p) x ≡ drop (at + length h + length p) w = rw (← drop-drop (length p) (at + length h) x, back, drop-drop) in
    over-fits x (at + length h) p (omega arith) ∙ rw (front, rest) (simp (length-append, append_assoc, add_assoc)) ∙ sym (over-fits w at (h ++ p) (omega arith))

pub over-nil : (w : List ℕ) (at : ℕ) → over w at [] ≡ w
over-nil w at = go (leb (at + 0) (length w)) refl
  where
    go : (b : Bool) → leb (at + 0) (length w) ≡ b → over w at [] ≡ w
    go true l = over-fits w at [] (leb-true _ _ l) ∙ sym (paste-zero w at [])
    go false l = over-not w at [] (leb-false _ _ l)

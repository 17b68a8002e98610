-- What is gathered before a record, one record at a time; and over the records under one.
use mathlib.Core.Path.{◌≡◌, refl, ap, ◌∙◌}
use mathlib.Core.Bool.{Bool, true, false}
use mathlib.Core.List.{List}
use Prim.Native.Nat.{ℕ, zero, suc, ◌+◌, ◌<◌, ◌≤◌}
use native.Mathlib.Nat.{add-zero}
use native.Mathlib.Numerals.{add-one}
use native.Mathlib.Omega.{arith}
use lib.Dec.{ltb}
use borrow.Author.Tests.{eq-eqb, ne_eqb, ltb-true, ltb-false}
use Rattle.leaves.specs.Sheet.Records.{record_at}
use Rattle.leaves.specs.Sheet.Siblings.{fold_siblings}
use Rattle.leaves.specs.Sheet.Forest.{under, size}
use Rattle.leaves.specs.declared.sheet.records.Rec.{Rec}
use Rattle.leaves.proofs.sheet.ForestLaws.{size_step, size-out, size-end}

-- ---- records deeper than a level are passed over
module _ (w : List ℕ) (n m : ℕ) where
  -- a forest that holds a record begins with one that is deeper
  pub begins : (j s : ℕ) → size (under w n j m) ≡ suc s → (j < n) × (m < (record_at w j).level)
  begins j s e = go (ltb j n) (ltb m (record_at w j).level) refl refl
    where
      go : (t u : Bool) → ltb j n ≡ t → ltb m (record_at w j).level ≡ u → (j < n) × (m < (record_at w j).level)
      go false u a b = absurd (omega (arith, size-end w n j m (ltb-false _ _ a)))
      go true false a b = absurd (omega (arith, size-out w n j m (ltb-true _ _ a) (ltb-false _ _ b)))
      go true true a b = (ltb-true _ _ a, ltb-true _ _ b)

  pub size_less : (j s : ℕ) → size (under w n j m) ≡ suc s → size (under w n (j + 1) m) ≡ s
  size_less j s e = let (h, d) = begins j s e in omega (arith, size_step w n j m h d)

  -- the record after them is not deeper
  pub level-past : (s j : ℕ) → size (under w n j m) ≡ s → j + s < n → (record_at w (j + s)).level ≤ m
  level-past zero j e h = rw add-zero (go (ltb m (record_at w j).level) refl)
    where
      go : (t : Bool) → ltb m (record_at w j).level ≡ t → (record_at w j).level ≤ m
      go false a = ltb-false _ _ a
      go true a = absurd (omega (arith, size_step w n j m (omega arith) (ltb-true _ _ a)))
  level-past (suc s) j e h =
      let p : j + suc s ≡ j + 1 + s = omega arith in
      rw p (level-past s (j + 1) (size_less j s e) (omega arith))

-- ---- what is gathered
module _ {A : Type 0} (sheet : A) (first : Rec → A) (next : A → Rec → A) (w : List ℕ) where
  abbrev at : ℕ → ℕ → A
  at l i = fold_siblings sheet first next w l i

  -- under record i nothing stands before its first child
  pub siblings-kid : (i l : ℕ) → (record_at w i).level ≡ l → at (l + 1) (i + 1) ≡ first (record_at w i)
  unfolding fold_siblings
  siblings-kid i l e = rw (add-one i, eq-eqb ((record_at w i).level + 1) (l + 1) (ap (λ n. n + 1) e))

  -- record i is one child more
  pub siblings-next : (i l : ℕ) → (record_at w i).level ≡ l → at l (i + 1) ≡ next (at l i) (record_at w i)
  unfolding fold_siblings
  siblings-next i l e = rw (add-one i, ne_eqb ((record_at w i).level + 1) l (λ f. absurd (omega arith)), eq-eqb (record_at w i).level l e)

  -- a record that is deeper changes nothing
  pub siblings-deeper : (i l : ℕ) → l < (record_at w i).level → at l (i + 1) ≡ at l i
  unfolding fold_siblings
  siblings-deeper i l h = rw (add-one i, ne_eqb ((record_at w i).level + 1) l (λ f. absurd (omega arith)), ne_eqb (record_at w i).level l (λ f. absurd (omega arith)))

  -- and neither do all the records of the trees deeper than it
  pub siblings-past : (n m s j : ℕ) → size (under w n j m) ≡ s → at m (j + s) ≡ at m j
  siblings-past n m zero j e = rw add-zero
  siblings-past n m (suc s) j e =
      let (h, d) = begins w n m j s e in
      let p : j + suc s ≡ j + 1 + s = omega arith in
      rw p (siblings-past n m s (j + 1) (size_less w n m j s e) ∙ siblings-deeper j m d)

-- Laws of the forest: how a walk by index moves over it.
use mathlib.Core.Path.{◌≡◌, refl, ap, sym, ◌∙◌}
use mathlib.Core.Bool.{Bool, true, false}
use mathlib.Core.List.{List, ◌∷◌, ◌++◌, append_assoc}
use Prim.Native.Nat.{ℕ, zero, suc, ◌+◌, ◌-◌, ◌≤◌, ◌<◌}
use native.Mathlib.Omega.{arith}
use native.Mathlib.Nat.{add-zero, sub-zero, sub-add-eq}
use native.Mathlib.Numerals.{add-one}
use Rattle.leaves.specs.Sheet.Records.{record_at, records_of}
use lib.Dec.{ltb}
use borrow.Author.Tests.{ltb-true, ltb-false, lt-ltb, le-ltb}
use Rattle.leaves.specs.Sheet.Forest.{Forest, no_tree, tree, deeper, after_deeper, grow, forest_at, forest_of, under, size, records_in, records_from}
use Rattle.leaves.specs.declared.sheet.records.Rec.{Rec}

module _ (l : ℕ) (r : Rec) (kids rest : Forest) where
  pub after-in : l < r.level → after_deeper l (tree r kids rest) ≡ after_deeper l rest
  unfolding after_deeper
  after-in h = rw (lt-ltb l r.level h)

  pub after-out : r.level ≤ l → after_deeper l (tree r kids rest) ≡ tree r kids rest
  unfolding after_deeper
  after-out h = rw (le-ltb l r.level h)

  pub deeper-in : l < r.level → deeper l (tree r kids rest) ≡ tree r kids (deeper l rest)
  unfolding deeper
  deeper-in h = rw (lt-ltb l r.level h)

  pub deeper-out : r.level ≤ l → deeper l (tree r kids rest) ≡ no_tree
  unfolding deeper
  deeper-out h = rw (le-ltb l r.level h)

pub after-after : (l m : ℕ) → l ≤ m → (f : Forest) → after_deeper l (after_deeper m f) ≡ after_deeper l f
unfolding after_deeper
after-after l m h no_tree = refl
after-after l m h (tree r kids rest) = go (ltb m r.level) refl (after-after l m h rest)
  where
    go : (b : Bool) → ltb m r.level ≡ b → after_deeper l (after_deeper m rest) ≡ after_deeper l rest → after_deeper l (after_deeper m (tree r kids rest)) ≡ after_deeper l (tree r kids rest)
    go true e ih =
        rw (after-in m r kids rest (ltb-true _ _ e), after-in l r kids rest (let h2 : m < r.level = ltb-true _ _ e in omega arith)) ih
    go false e ih = rw (after-out m r kids rest (ltb-false _ _ e)) refl

pub size-deeper : (l m : ℕ) → l ≤ m → (f : Forest) → size (deeper l f) ≡ size (deeper m f) + size (deeper l (after_deeper m f))
unfolding after_deeper deeper size
size-deeper l m h no_tree = refl
size-deeper l m h (tree r kids rest) = go (ltb m r.level) refl (size-deeper l m h rest)
  where
    go : (b : Bool) → ltb m r.level ≡ b → size (deeper l rest) ≡ size (deeper m rest) + size (deeper l (after_deeper m rest)) → size (deeper l (tree r kids rest)) ≡ size (deeper m (tree r kids rest)) + size (deeper l (after_deeper m (tree r kids rest)))
    go true e ih =
        rw (after-in m r kids rest (ltb-true _ _ e), deeper-in l r kids rest (let h2 : m < r.level = ltb-true _ _ e in omega arith), deeper-in m r kids rest (ltb-true _ _ e)) (omega (arith, ih))
    go false e ih =
        rw (after-out m r kids rest (ltb-false _ _ e), deeper-out m r kids rest (ltb-false _ _ e)) (omega arith)

pub size-split : (l : ℕ) (f : Forest) → size f ≡ size (deeper l f) + size (after_deeper l f)
unfolding after_deeper deeper size
size-split l no_tree = refl
size-split l (tree r kids rest) = go (ltb l r.level) refl (size-split l rest)
  where
    go : (b : Bool) → ltb l r.level ≡ b → size rest ≡ size (deeper l rest) + size (after_deeper l rest) → size (tree r kids rest) ≡ size (deeper l (tree r kids rest)) + size (after_deeper l (tree r kids rest))
    go true e ih = rw e (omega (arith, ih))
    go false e ih = rw e (omega arith)

-- one step of `after-at`, at a record r in front of a forest f
module _ (w : List ℕ) (k i l : ℕ) (r : Rec) (f : Forest) (ih : after_deeper l f ≡ forest_at w (k - size (deeper l f)) (suc i + size (deeper l f))) where
  step_in : l < r.level → after_deeper l (grow r f) ≡ forest_at w (suc k - size (deeper l (grow r f))) (i + size (deeper l (grow r f)))
  unfolding grow size
  step_in h =
      let n : size (deeper l f) ≡ size (deeper r.level f) + size (deeper l (after_deeper r.level f)) = size-deeper l r.level (omega arith) f in
      let p : suc k - suc (size (deeper r.level f) + size (deeper l (after_deeper r.level f))) ≡ k - size (deeper l f) = omega arith in
      let q : i + suc (size (deeper r.level f) + size (deeper l (after_deeper r.level f))) ≡ suc i + size (deeper l f) = omega arith in
      rw (after-in l r (deeper r.level f) (after_deeper r.level f) h, deeper-in l r (deeper r.level f) (after_deeper r.level f) h, after-after l r.level (omega arith) f)
      (rw (p, q) ih)

  step-out : r.level ≤ l → grow r f ≡ forest_at w (suc k) i → after_deeper l (grow r f) ≡ forest_at w (suc k - size (deeper l (grow r f))) (i + size (deeper l (grow r f)))
  unfolding grow size
  step-out h e =
      rw (deeper-out l r (deeper r.level f) (after_deeper r.level f) h, add-zero, sub-zero) (after-out l r (deeper r.level f) (after_deeper r.level f) h ∙ e)

-- moving past the trees deeper than l is moving on by as many records as they hold
pub after-at : (w : List ℕ) (k i l : ℕ) → after_deeper l (forest_at w k i) ≡ forest_at w (k - size (deeper l (forest_at w k i))) (i + size (deeper l (forest_at w k i)))
unfolding forest_at after_deeper deeper size
after-at w zero i l = refl
after-at w (suc k) i l = go (ltb l (record_at w i).level) refl (after-at w k (suc i) l)
  where
    go : (b : Bool) → ltb l (record_at w i).level ≡ b → after_deeper l (forest_at w k (suc i)) ≡ forest_at w (k - size (deeper l (forest_at w k (suc i)))) (suc i + size (deeper l (forest_at w k (suc i)))) → after_deeper l (forest_at w (suc k) i) ≡ forest_at w (suc k - size (deeper l (forest_at w (suc k) i))) (i + size (deeper l (forest_at w (suc k) i)))
    go true e ih = step_in w k i l (record_at w i) (forest_at w k (suc i)) ih (ltb-true _ _ e)
    go false e ih = step-out w k i l (record_at w i) (forest_at w k (suc i)) ih (ltb-false _ _ e) refl

-- how many records a forest holds
pub size-at : (w : List ℕ) (k i : ℕ) → size (forest_at w k i) ≡ k
unfolding forest_at size grow
size-at w zero i = refl
size-at w (suc k) i = rw (← size-split (record_at w i).level (forest_at w k (suc i))) (ap suc (size-at w k (suc i)))

pub size_of : (w : List ℕ) → size (forest_of w) ≡ records_of w
unfolding forest_of
size_of w = size-at w (records_of w) 0

-- a forest whose trees are all deeper than l is all of its trees deeper than l
abbrev Over : ℕ → Forest → Type 0
Over l no_tree = Unit {0}
Over l (tree r kids rest) = (l < r.level) × Over l rest

deeper-all : (l : ℕ) (f : Forest) → Over l f → deeper l f ≡ f
unfolding deeper
deeper-all l no_tree o = refl
deeper-all l (tree r kids rest) o = rw (lt-ltb l r.level o.0) (ap (tree r kids) (deeper-all l rest o.1))

over-past : (l m : ℕ) (f : Forest) → Over l f → Over l (after_deeper m f)
unfolding after_deeper
over-past l m no_tree o = o
over-past l m (tree r kids rest) o = go (ltb m r.level) refl (over-past l m rest o.1)
  where
    go : (b : Bool) → ltb m r.level ≡ b → Over l (after_deeper m rest) → Over l (after_deeper m (tree r kids rest))
    go true e ih = rw e ih
    go false e ih = rw e o

over-at : (w : List ℕ) (l k i : ℕ) → ((m : ℕ) → m < k → l < (record_at w (i + m)).level) → Over l (forest_at w k i)
unfolding forest_at grow
over-at w l zero i h = tt
over-at w l (suc k) i h =
    (rw add-zero at (h 0 (omega arith)), over-past l (record_at w i).level (forest_at w k (suc i)) (over-at w l k (suc i) (λ m b. let e : suc i + m ≡ i + suc m = omega arith in rw e (h (suc m) (omega arith)))))

pub all_under : (w : List ℕ) (n l : ℕ) → ((m : ℕ) → m < n → l < (record_at w (0 + m)).level) → under w n 0 l ≡ forest_at w n 0
all_under w n l h = rw sub-zero (deeper-all l (forest_at w n 0) (over-at w l n 0 h))

-- where the kids of record i end
abbrev pub behind_kids : List ℕ → ℕ → ℕ → ℕ
behind_kids w n i = i + 1 + size (under w n (i + 1) (record_at w i).level)

-- the walk by index: at record i of n
module _ (w : List ℕ) (n i : ℕ) where
  pub under-end : (l : ℕ) → n ≤ i → under w n i l ≡ no_tree
  unfolding deeper forest_at
  under-end l h = let e : n - i ≡ 0 = omega arith in rw e refl

  pub under-fits : (l : ℕ) → i ≤ n → i + size (under w n i l) ≤ n
  under-fits l h = omega (arith, size-split l (forest_at w (n - i) i), size-at w (n - i) i)

  module _ (l : ℕ) (h : i < n) where
    forest_step : forest_at w (n - i) i ≡ grow (record_at w i) (forest_at w (n - (i + 1)) (i + 1))
    unfolding forest_at
    forest_step = let e : n - i ≡ suc (n - (i + 1)) = omega arith in rw (e, add-one i)

    pub under-out : (record_at w i).level ≤ l → under w n i l ≡ no_tree
    unfolding grow
    under-out d = rw forest_step (deeper-out l (record_at w i) _ _ d)

    pub under-in : l < (record_at w i).level → under w n i l ≡ tree (record_at w i) (under w n (i + 1) (record_at w i).level) (under w n (i + 1 + size (under w n (i + 1) (record_at w i).level)) l)
    unfolding grow
    under-in d = rw (forest_step, deeper-in l (record_at w i) _ _ d, after-at, sub-add-eq n (i + 1))

    pub size_step : l < (record_at w i).level → size (under w n i l) ≡ suc (size (under w n (i + 1) l))
    unfolding grow size
    size_step d = rw (forest_step, deeper-in l (record_at w i) _ _ d) (ap suc (sym (size-deeper l (record_at w i).level (omega arith) _)))

    pub size-out : (record_at w i).level ≤ l → size (under w n i l) ≡ 0
    unfolding size
    size-out d = ap size (under-out d)

  pub size-end : (l : ℕ) → n ≤ i → size (under w n i l) ≡ 0
  unfolding size
  size-end l h = ap size (under-end l h)

-- ---- the flat list again: a tree holds its record, then the records under it, then those of the siblings after it
flat-split : (l : ℕ) (f : Forest) → records_in (deeper l f) ++ records_in (after_deeper l f) ≡ records_in f
unfolding after_deeper deeper records_in
flat-split l no_tree = refl
flat-split l (tree r kids rest) = go (ltb l r.level) refl (flat-split l rest)
  where
    go : (b : Bool) → ltb l r.level ≡ b → records_in (deeper l rest) ++ records_in (after_deeper l rest) ≡ records_in rest → records_in (deeper l (tree r kids rest)) ++ records_in (after_deeper l (tree r kids rest)) ≡ records_in (tree r kids rest)
    go true e ih = rw e (ap (◌∷◌ r) (append_assoc (records_in kids) (records_in (deeper l rest)) (records_in (after_deeper l rest)) ∙ ap (◌++◌ (records_in kids)) ih))
    go false e ih = rw e

pub flat-forest : (w : List ℕ) (k i : ℕ) → records_in (forest_at w k i) ≡ records_from w k i
unfolding forest_at grow records_in records_from
flat-forest w zero i = refl
flat-forest w (suc k) i = ap (◌∷◌ (record_at w i)) (flat-split (record_at w i).level (forest_at w k (suc i)) ∙ flat-forest w k (suc i))

-- The openings and closings by levels are those of a walk over the forest.
use mathlib.Core.Path.{◌≡◌, refl, ap, ◌∙◌}
use mathlib.Core.Logic.{◌≢◌}
use mathlib.Core.Bool.{Bool, true, false}
use mathlib.Core.List.{List, [], ◌∷◌, ◌++◌, append_assoc, append-nil}
use Prim.Native.Nat.{ℕ, suc, ◌+◌, ◌≤◌, ◌<◌}
use native.Mathlib.Omega.{arith}
use native.Mathlib.Nat.{zero-add, add-zero}
use lib.Dec.{ltb, eqb}
use borrow.Author.Tests.{eqb-true, eqb-false, ltb-true, ltb-false, lt-ltb, le-ltb}
use Rattle.std.specs.Prelude.{if◌then◌else◌}
use Rattle.leaves.specs.Sheet.Records.{records_of}
use Rattle.leaves.specs.Sheet.Forest.{Forest, no_tree, tree, forest_of, size, records_in}
use Rattle.leaves.specs.declared.sheet.records.Rec.{Rec}
use Rattle.leaves.proofs.sheet.ForestLaws.{flat-forest, size_of}
use Rattle.setter.specs.Steps.{Frame, fresh, with_kid, the_sheet, Step, closings, steps_from, steps_of, opens, closes}
use Rattle.setter.proofs.StepLaws.{Low, open-one, close-one}
use Rattle.setter.specs.Agrees.{times_opened, times_closed}

-- every tree is one level deeper than l, and so on down
unfoldable pub Deep : ℕ → Forest → Type 0
Deep l no_tree = Unit {0}
Deep l (tree r kids rest) = (r.level ≡ suc l) × Deep r.level kids × Deep l rest

-- the roots of a forest, newest first, in front of older siblings
unfoldable pub pile : Forest → List Rec → List Rec
pile no_tree ks = ks
pile (tree r kids rest) ks = pile rest (r ∷ ks)

abbrev pub filled : Frame → List Rec → Frame
filled f ks = record { at = f.at; of = f.of; kids = ks }

-- the openings and closings of a forest under f
unfoldable pub walk : Frame → List Frame → ℕ → Forest → List Step
walk f st i no_tree = []
walk f st i (tree r kids rest) =
    opens (fresh i r) (f ∷ st)
    ∷ (walk (fresh i r) (f ∷ st) (suc i) kids
    ++ (closes (filled (fresh i r) (pile kids [])) (f ∷ st)
    ∷ walk (with_kid r f) st (suc i + size kids) rest))

low-flat : (l m : ℕ) (f : Forest) (ms : List Rec) → Deep l f → suc l ≤ m → Low (suc l) ms → Low m (records_in f ++ ms)
unfolding Low records_in Deep
low-flat l m no_tree [] d h g = omega arith
low-flat l m no_tree (r ∷ rs) d h g = omega arith
low-flat l m (tree r kids rest) ms d h g = omega (arith, d.0)

walk-flat : (f : Frame) (st : List Frame) (i : ℕ) (ts : Forest) (ms : List Rec) → Deep f.of.level ts → Low (suc f.of.level) ms → steps_from (record { top = f; around = st }) i (records_in ts ++ ms) ≡ walk f st i ts ++ steps_from (record { top = filled f (pile ts f.kids); around = st }) (i + size ts) ms
unfolding records_in walk pile size Deep
walk-flat f st i no_tree ms d g = rw add-zero
walk-flat f st i (tree r kids rest) ms d g =
    let ihk : steps_from (record { top = fresh i r; around = f ∷ st }) (suc i) (records_in kids ++ (records_in rest ++ ms)) ≡ walk (fresh i r) (f ∷ st) (suc i) kids ++ steps_from (record { top = filled (fresh i r) (pile kids []); around = f ∷ st }) (suc i + size kids) (records_in rest ++ ms) = walk-flat (fresh i r) (f ∷ st) (suc i) kids (records_in rest ++ ms) d.1 (low-flat f.of.level (suc r.level) rest ms d.2 (omega (arith, d.0)) g) in
    let ihr : steps_from (record { top = with_kid r f; around = st }) (suc i + size kids) (records_in rest ++ ms) ≡ walk (with_kid r f) st (suc i + size kids) rest ++ steps_from (record { top = filled (with_kid r f) (pile rest (r ∷ f.kids)); around = st }) (suc i + size kids + size rest) ms = walk-flat (with_kid r f) st (suc i + size kids) rest ms d.2 g in
    let cl : steps_from (record { top = filled (fresh i r) (pile kids []); around = f ∷ st }) (suc i + size kids) (records_in rest ++ ms) ≡ closes (filled (fresh i r) (pile kids [])) (f ∷ st) ∷ steps_from (record { top = with_kid r f; around = st }) (suc i + size kids) (records_in rest ++ ms) = close-one (filled (fresh i r) (pile kids [])) f st (suc i + size kids) (suc f.of.level) (records_in rest ++ ms) d.0 (omega arith) (low-flat f.of.level (suc f.of.level) rest ms d.2 (omega arith) g) in
    let n : i + suc (size kids + size rest) ≡ suc i + size kids + size rest = omega arith in
    rw (append_assoc (records_in kids) (records_in rest) ms, open-one f st i r (records_in kids ++ (records_in rest ++ ms)) d.0, ihk, cl, ihr, n, append_assoc (walk (fresh i r) (f ∷ st) (suc i) kids) (closes (filled (fresh i r) (pile kids [])) (f ∷ st) ∷ walk (with_kid r f) st (suc i + size kids) rest) _)

module _ (w : List ℕ) (h : Deep 0 (forest_of w)) where
  pub walk_of : steps_of w ≡ walk the_sheet [] 0 (forest_of w)
  unfolding steps_of steps_from closings Low forest_of
  walk_of =
      let e : steps_from (record { top = the_sheet; around = [] }) 0 (records_in (forest_of w) ++ []) ≡ walk the_sheet [] 0 (forest_of w) ++ [] = walk-flat the_sheet [] 0 (forest_of w) [] h (omega arith) in
      rw (append-nil, flat-forest w (records_of w) 0, append-nil) at e

-- every record is opened once and closed once: those before record i, and those of the forest from i on
abbrev below : ℕ → ℕ → ℕ
below j i = (if ltb j i then 1 else 0)

below_suc : (j i : ℕ) → (if eqb i j then 1 else 0) + below j i ≡ below j (suc i)
below_suc j i = go (eqb i j) refl (ltb j i) refl
  where
    go : (b : Bool) → eqb i j ≡ b → (c : Bool) → ltb j i ≡ c → (if b then 1 else 0) + (if c then 1 else 0) ≡ below j (suc i)
    go true e true g = absurd (let p : i ≡ j = eqb-true _ _ e in let q : j < i = ltb-true _ _ g in omega arith)
    go true e false g = let p : i ≡ j = eqb-true _ _ e in rw (lt-ltb j (suc i) (omega arith))
    go false e true g = let q : j < i = ltb-true _ _ g in rw (lt-ltb j (suc i) (omega arith))
    go false e false g = let p : i ≢ j = eqb-false _ _ e in let q : i ≤ j = ltb-false _ _ g in rw (le-ltb j (suc i) (omega arith))

opened-append : (j : ℕ) (a b : List Step) → times_opened j (a ++ b) ≡ times_opened j a + times_opened j b
unfolding times_opened
opened-append j [] b = omega arith
opened-append j (opens f st ∷ a) b = omega (arith, opened-append j a b)
opened-append j (closes f st ∷ a) b = opened-append j a b

closed-append : (j : ℕ) (a b : List Step) → times_closed j (a ++ b) ≡ times_closed j a + times_closed j b
unfolding times_closed
closed-append j [] b = omega arith
closed-append j (opens f st ∷ a) b = closed-append j a b
closed-append j (closes f st ∷ a) b = omega (arith, closed-append j a b)

opened : (j : ℕ) (f : Frame) (st : List Frame) (i : ℕ) (ts : Forest) → times_opened j (walk f st i ts) + below j i ≡ below j (i + size ts)
unfolding times_opened walk size
opened j f st i no_tree = rw add-zero (omega arith)
opened j f st i (tree r kids rest) =
    let n : i + suc (size kids + size rest) ≡ suc i + size kids + size rest = omega arith in
    rw (n, opened-append j) (omega (arith, below_suc j i, opened j (fresh i r) (f ∷ st) (suc i) kids, opened j (with_kid r f) st (suc i + size kids) rest))

closed : (j : ℕ) (f : Frame) (st : List Frame) (i : ℕ) (ts : Forest) → times_closed j (walk f st i ts) + below j i ≡ below j (i + size ts)
unfolding times_closed walk size
closed j f st i no_tree = rw add-zero (omega arith)
closed j f st i (tree r kids rest) =
    let n : i + suc (size kids + size rest) ≡ suc i + size kids + size rest = omega arith in
    rw (n, closed-append j) (omega (arith, below_suc j i, closed j (fresh i r) (f ∷ st) (suc i) kids, closed j (with_kid r f) st (suc i + size kids) rest))

module _ (w : List ℕ) (h : Deep 0 (forest_of w)) (i : ℕ) where
  times : (times_opened i (steps_of w) ≡ below i (records_of w)) × (times_closed i (steps_of w) ≡ below i (records_of w))
  times =
      let z : below i 0 ≡ 0 = ap (λ (b : Bool). if b then 1 else 0) (le-ltb i 0 (omega arith)) in
      let n : 0 + size (forest_of w) ≡ records_of w = zero-add _ ∙ size_of w in
      rw (walk_of w h, ← n) (omega (arith, z, opened i the_sheet [] 0 (forest_of w)), omega (arith, z, closed i the_sheet [] 0 (forest_of w)))

  pub once-of : i < records_of w → (times_opened i (steps_of w) ≡ 1) × (times_closed i (steps_of w) ≡ 1)
  once-of g = rw (lt-ltb i (records_of w) g) at times

  pub never-of : records_of w ≤ i → (times_opened i (steps_of w) ≡ 0) × (times_closed i (steps_of w) ≡ 0)
  never-of g = rw (le-ltb i (records_of w) g) at times

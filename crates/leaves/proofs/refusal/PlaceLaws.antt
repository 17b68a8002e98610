-- The table of places, and what stands before a record under its parent.
use mathlib.Core.Path.{◌≡◌, refl}
use mathlib.Core.Bool.{Bool, true, false, not, ◌&&◌, ◌||◌}
use mathlib.Core.List.{List, [], ◌∷◌}
use Rattle.std.proofs.Common.{◌⊎◌, inl, inr}
use Prim.Native.Nat.{ℕ, suc, ◌<◌, ◌≤◌}
use native.Mathlib.Omega.{arith}
use lib.Dec.{eqb, ltb, leb}
use lib.ListN.{get_or}
use borrow.Author.Tests.{eqb-true, ltb-true, leb-false, ne_eqb}
use Rattle.leaves.proofs.text.TestLaws.{all_below, each, and_left, and_right, or_left, or_right}
use Rattle.leaves.specs.Sheet.Kinds.{html_tag}
use Rattle.leaves.specs.Refusal.Groups.{parent_of_tags_and_blocks, parent_of_tags_and_inlines}
use Rattle.leaves.specs.Refusal.PlaceTable.{place_table}
use Rattle.leaves.specs.Refusal.Places.{holds, place_in, place_of, misplaced}
use Rattle.leaves.specs.declared.refusal.places.Open.{Open}

-- ---- the table that the code reads has the places of the definitions, by one computed test of all its cells
cell : ℕ → ℕ → ℕ
cell group column = get_or (get_or place_table group []) column 0

cell-test : ℕ → ℕ → Bool
cell-test group column = eqb (cell group column) (place_in 1 (holds group) column)

row-test : ℕ → Bool
row-test group = all_below (cell-test group) 7

celled : (group : ℕ) → group < 10 → row-test group ≡ true
unfolding all_below row-test cell-test cell place_table holds place_in
celled group h = each row-test 10 refl group h

pub place_inside : (table : List (List ℕ)) (group column : ℕ) → table ≡ place_table → group < 10 → column < 7 → get_or (get_or table group []) column 0 ≡ place_in 1 (holds group) column
unfolding row-test cell-test cell
place_inside table group column e h k = rw e (eqb-true _ _ (each (cell-test group) 7 (celled group h) column k))

-- ---- outside of the table there is no place
holds-none : (group : ℕ) → 10 ≤ group → holds group ≡ []
unfolding holds
holds-none group h = simp other
  where
    other : (n : ℕ) → ltb n 10 ≡ true → eqb group n ≡ false
    other n e = ne_eqb group n (λ q. omega (arith, ltb-true n 10 e))

place-below : (group column : ℕ) → 10 ≤ group → 0 ≡ place_in 1 (holds group) column
unfolding place_in
place-below group column h = rw (holds-none group h)

-- a group that is none of a list has no place in it
few : List ℕ → Bool
few [] = true
few (group ∷ groups) = ltb group 7 && few groups

place_none : (first : ℕ) (groups : List ℕ) (column : ℕ) → few groups ≡ true → 7 ≤ column → 0 ≡ place_in first groups column
unfolding few place_in
place_none first [] column e h = refl
place_none first (group ∷ groups) column e h =
    let g : group < 7 = ltb-true group 7 (and_left (ltb group 7) (few groups) e) in
    rw (ne_eqb column group (λ q. omega arith)) (place_none (suc first) groups column (and_right (ltb group 7) (few groups) e) h)

place-right : (group column : ℕ) → group < 10 → 7 ≤ column → 0 ≡ place_in 1 (holds group) column
unfolding all_below few holds
place-right group column g h = place_none 1 (holds group) column (each (λ g. few (holds g)) 10 refl group g) h

pub place-outside : (group column : ℕ) → (10 ≤ group) ⊎ ((group < 10) × (7 ≤ column)) → 0 ≡ place_in 1 (holds group) column
place-outside group column (inl h) = place-below group column h
place-outside group column (inr h) = place-right group column h.0 h.1

-- a tag that is not misplaced is the first or the second
pub few-tags : (o : Open) (kind : ℕ) → misplaced o kind ≡ false → eqb kind html_tag ≡ true → o.tags < 2
unfolding misplaced
few-tags o kind h e =
    let place = place_of o.group kind in
    let third = eqb kind html_tag && leb 2 o.tags in
    let first : (eqb place 0 || ltb place o.stage || third) ≡ false = or_left _ ((eqb o.group parent_of_tags_and_blocks || eqb o.group parent_of_tags_and_inlines) && not (eqb kind html_tag) && ltb o.tags 2) h in
    let none : third ≡ false = or_right (eqb place 0 || ltb place o.stage) third first in
    leb-false 2 o.tags (rw e at none)

pub ruleset at_place = (place_inside, place-outside)

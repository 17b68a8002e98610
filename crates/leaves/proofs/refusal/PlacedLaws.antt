-- What may stand where, for a record that is not misplaced: laws that walks and machine cite.
use mathlib.Core.Path.{◌≡◌, refl}
use mathlib.Core.Bool.{Bool, true, false, not, ◌&&◌, ◌||◌}
use Prim.Native.Nat.{ℕ, ◌≤◌}
use borrow.Author.Tests.{ltb-false}
use lib.Dec.{eqb, ltb, leb}
use Rattle.leaves.proofs.text.TestLaws.{or_left, or_right, all_below, each}
use Rattle.leaves.specs.Sheet.Kinds.{is_block, is_inline, is_kind, item, row, cell, html_tag, attribute}
use Rattle.leaves.proofs.sheet.KindLaws.{kind-below}
use Rattle.leaves.specs.Refusal.Groups.{parent_of_blocks, parent_of_items, parent_of_rows, parent_of_cells, parent_of_inlines, parent_of_label, parent_of_label_and_blocks, parent_of_tags_and_blocks, parent_of_tags_and_inlines, parent_of_nothing, child_group}
use Rattle.leaves.specs.Refusal.Places.{holds, place_in, place_of, before_children, after_child, misplaced}
use Rattle.leaves.specs.declared.refusal.places.Open.{Open}

-- ---- a record that is not misplaced has a place, at or after that of the child before it
module _ (o : Open) (k : ℕ) (h : misplaced o k ≡ false) where
  firsts : (eqb (place_of o.group k) 0 || ltb (place_of o.group k) o.stage) ≡ false
  unfolding misplaced
  firsts = or_left _ (eqb k html_tag && leb 2 o.tags) (or_left _ ((eqb o.group parent_of_tags_and_blocks || eqb o.group parent_of_tags_and_inlines) && not (eqb k html_tag) && ltb o.tags 2) h)

  pub has-place : eqb (place_of o.group k) 0 ≡ false
  has-place = or_left _ (ltb (place_of o.group k) o.stage) firsts

  pub in_order : o.stage ≤ place_of o.group k
  in_order = ltb-false _ _ (or_right (eqb (place_of o.group k) 0) _ firsts)

-- the states under one parent have one group
pub child-keeps-group : (o : Open) (k : ℕ) → (after_child o k).group ≡ o.group
unfolding after_child
child-keeps-group o k = refl

pub first-has-group : (g : ℕ) → (before_children g).group ≡ g
unfolding before_children
first-has-group g = refl

-- ---- a rule of all kinds under a group, by one computed test
under-test : ℕ → (ℕ → Bool) → ℕ → Bool
under-test g test k = not (is_kind k && not (eqb (place_of g k) 0)) || test k

under-rule : (g : ℕ) (test : ℕ → Bool) → all_below (under-test g test) 54 ≡ true → (o : Open) (k : ℕ) → o.group ≡ g → is_kind k ≡ true → misplaced o k ≡ false → test k ≡ true
unfolding under-test
under-rule g test e o k f c h = rw (c, ← f, has-place o k h) at (each (under-test g test) 54 e k (kind-below k c))

module _ (o : Open) (k : ℕ) where
  pub blocks-only : o.group ≡ parent_of_blocks → is_kind k ≡ true → misplaced o k ≡ false → is_block k ≡ true
  unfolding all_below under-test place_of holds place_in child_group
  blocks-only = under-rule parent_of_blocks is_block refl o k

  pub items-only : o.group ≡ parent_of_items → is_kind k ≡ true → misplaced o k ≡ false → eqb k item ≡ true
  unfolding all_below under-test place_of holds place_in child_group
  items-only = under-rule parent_of_items (λ x. eqb x item) refl o k

  pub rows-only : o.group ≡ parent_of_rows → is_kind k ≡ true → misplaced o k ≡ false → eqb k row ≡ true
  unfolding all_below under-test place_of holds place_in child_group
  rows-only = under-rule parent_of_rows (λ x. eqb x row) refl o k

  pub cells-only : o.group ≡ parent_of_cells → is_kind k ≡ true → misplaced o k ≡ false → eqb k cell ≡ true
  unfolding all_below under-test place_of holds place_in child_group
  cells-only = under-rule parent_of_cells (λ x. eqb x cell) refl o k

  pub inlines-only : o.group ≡ parent_of_inlines → is_kind k ≡ true → misplaced o k ≡ false → is_inline k ≡ true
  unfolding all_below under-test place_of holds place_in child_group
  inlines-only = under-rule parent_of_inlines is_inline refl o k

  pub label-only : o.group ≡ parent_of_label → is_kind k ≡ true → misplaced o k ≡ false → (eqb k attribute || is_inline k) ≡ true
  unfolding all_below under-test place_of holds place_in child_group
  label-only = under-rule parent_of_label (λ x. eqb x attribute || is_inline x) refl o k

  pub label-and-blocks-only : o.group ≡ parent_of_label_and_blocks → is_kind k ≡ true → misplaced o k ≡ false → (eqb k attribute || is_inline k || is_block k) ≡ true
  unfolding all_below under-test place_of holds place_in child_group
  label-and-blocks-only = under-rule parent_of_label_and_blocks (λ x. eqb x attribute || is_inline x || is_block x) refl o k

  pub tags-and-blocks-only : o.group ≡ parent_of_tags_and_blocks → is_kind k ≡ true → misplaced o k ≡ false → (eqb k html_tag || is_block k) ≡ true
  unfolding all_below under-test place_of holds place_in child_group
  tags-and-blocks-only = under-rule parent_of_tags_and_blocks (λ x. eqb x html_tag || is_block x) refl o k

  pub tags-and-inlines-only : o.group ≡ parent_of_tags_and_inlines → is_kind k ≡ true → misplaced o k ≡ false → (eqb k html_tag || is_inline k) ≡ true
  unfolding all_below under-test place_of holds place_in child_group
  tags-and-inlines-only = under-rule parent_of_tags_and_inlines (λ x. eqb x html_tag || is_inline x) refl o k

  pub nothing-there : o.group ≡ parent_of_nothing → is_kind k ≡ true → misplaced o k ≡ false → false ≡ true
  unfolding all_below under-test place_of holds place_in child_group
  nothing-there = under-rule parent_of_nothing (λ x. false) refl o k

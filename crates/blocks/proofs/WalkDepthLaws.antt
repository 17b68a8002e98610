-- On an accepted sheet a block's level is above 1 exactly where the depth that validate.rs counts is above 0.
use mathlib.Core.Path.{◌≡◌, refl, sym, ap, ◌∙◌}
use mathlib.Core.Bool.{Bool, true, false, true≢false}
use mathlib.Core.List.{List}
use Prim.Native.Nat.{ℕ, suc, ◌+◌}
use native.Mathlib.Omega.{arith}
use borrow.Author.Tests.{lt-ltb, le-ltb, ltb-true, ltb-false, eqb-true}
use lib.Dec.{eqb, ltb}
use Rattle.std.specs.Prelude.{if◌then◌else◌}
use Rattle.leaves.specs.Sheet.Kinds.{is_kind, is_block, list, item}
use Rattle.leaves.specs.Sheet.Forest.{Forest, no_tree, tree, forest_of}
use Rattle.leaves.specs.declared.sheet.records.Rec.{Rec}
use Rattle.leaves.specs.Refusal.Groups.{parent_of_blocks, parent_of_items, parent_group}
use Rattle.leaves.specs.Refusal.Places.{before_children, after_child, misplaced}
use Rattle.leaves.specs.declared.refusal.places.Open.{Open}
use Rattle.leaves.proofs.refusal.PlacedLaws.{items-only, child-keeps-group, first-has-group}
use Rattle.leaves.specs.Refusal.Formed.{Formed, Sound}
use Rattle.blocks.specs.WalkDepth.{depth_under, Counted}

-- where a block may stand under a parent of the level l, that level and the depth are both 0 or both above it
abbrev Agree : ℕ → ℕ → ℕ → Type 0
Agree group l depth = (o : Open) (k : ℕ) → o.group ≡ group → is_kind k ≡ true → is_block k ≡ true → misplaced o k ≡ false → ltb 0 l ≡ ltb 0 depth

no_item : (k : ℕ) → is_block k ≡ true → eqb k item ≡ true → ⊥
no_item k b e = true≢false (sym b ∙ ap is_block (eqb-true k item e))

list-items : (kind a : ℕ) → eqb kind list ≡ true → parent_group kind a ≡ parent_of_items
unfolding parent_group
list-items kind a e = rw (eqb-true kind list e)

-- no block stands in a list, and below every other record both are above 0
agree-under : (r : Rec) (l depth : ℕ) → Agree (parent_group r.kind r.a) (l + 1) (depth_under depth r)
unfolding depth_under
agree-under r l depth o k g known b m = go (eqb r.kind list) refl
  where
    go : (t : Bool) → eqb r.kind list ≡ t → ltb 0 (l + 1) ≡ ltb 0 (if t then depth else suc depth)
    go true e = absurd (no_item k b (items-only o k (g ∙ list-items r.kind r.a e) known m))
    go false e = lt-ltb 0 (l + 1) (omega arith) ∙ sym (lt-ltb 0 (suc depth) (omega arith))

shift : (l : ℕ) → ltb 1 (l + 1) ≡ ltb 0 l
shift l = go (ltb 0 l) refl
  where
    go : (t : Bool) → ltb 0 l ≡ t → ltb 1 (l + 1) ≡ t
    go true e = lt-ltb 1 (l + 1) (omega (arith, ltb-true 0 l e))
    go false e = le-ltb 1 (l + 1) (omega (arith, ltb-false 0 l e))

counted : (bytes : List ℕ) (l depth : ℕ) (o : Open) (ts : Forest) → Formed bytes l o ts → Agree o.group l depth → Counted depth ts
unfolding Formed Counted
counted bytes l depth o no_tree f a = tt
counted bytes l depth o (tree r kids rest) f a =
    let below : Agree (before_children (parent_group r.kind r.a)).group (l + 1) (depth_under depth r) = rw (first-has-group (parent_group r.kind r.a)) (agree-under r l depth) in
    let beside : Agree (after_child o r.kind).group l depth = rw (child-keeps-group o r.kind) a in (
      λ b. rw f.0.level (shift l ∙ a o r.kind refl f.0.kind b f.0.place),
      counted bytes (l + 1) (depth_under depth r) (before_children (parent_group r.kind r.a)) kids f.1 below,
      counted bytes l depth (after_child o r.kind) rest f.2 beside,
    )

pub depth-counted : (w bytes : List ℕ) → Sound w bytes → Counted 0 (forest_of w)
depth-counted w bytes s = counted bytes 0 0 (before_children parent_of_blocks) (forest_of w) s.tree (λ o k g known b m. refl)

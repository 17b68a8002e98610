-- What may stand where on a formed sheet, and in which order: tree by tree under an open record.
use mathlib.Core.Path.{◌≡◌, refl, ◌∙◌}
use mathlib.Core.Bool.{Bool, true, false, not, ◌&&◌, ◌||◌, false≢true}
use mathlib.Core.List.{List, [], ◌∷◌}
use mathlib.Core.Logic.{◌⊎◌, inl, inr, ⊎_elim}
use Prim.Native.Nat.{ℕ, ◌+◌, ◌≤◌, ◌<◌}
use native.Mathlib.Omega.{arith}
use native.Mathlib.Numerals.{add-one}
use lib.Dec.{leb, ltb, eqb}
use lib.ListN.{get_or}
use borrow.Author.Tests.{eqb-true, leb-true, le-leb, ltb-true}
use Rattle.std.specs.Prelude.{if◌then◌else◌}
use Rattle.leaves.proofs.text.TestLaws.{all_below, each, and_left, and_right}
use Rattle.leaves.specs.Sheet.Kinds.{among, is_kind, paragraph, heading, block_quote, alert, list, html_container, footnote_definition, table, leaf_directive, container_directive, item, row, cell, emphasis, strong, delete, mark, link, image, link_reference, image_reference, inline_footnote, text_directive}
use Rattle.leaves.proofs.sheet.KindLaws.{kind-below}
use Rattle.leaves.specs.Sheet.Forest.{Forest, no_tree, tree}
use Rattle.leaves.specs.declared.sheet.records.Rec.{Rec}
use Rattle.leaves.specs.Refusal.Groups.{parent_of_blocks, parent_of_items, parent_of_rows, parent_of_cells, parent_of_inlines, parent_of_label, parent_of_label_and_blocks, parent_of_tags_and_blocks, parent_of_tags_and_inlines, parent_of_nothing, other_group, parent_group, child_group}
use Rattle.leaves.specs.Refusal.Places.{holds, place_in, place_of, before_children, after_child, misplaced}
use Rattle.leaves.specs.declared.refusal.places.Open.{Open}
use Rattle.leaves.proofs.refusal.PlacedLaws.{has-place, in_order, child-keeps-group, first-has-group, blocks-only, items-only, rows-only, cells-only, inlines-only, label-only, label-and-blocks-only, tags-and-blocks-only, tags-and-inlines-only, nothing-there}
use Rattle.setter.specs.Steps.{the_sheet}
use Rattle.leaves.specs.Refusal.Formed.{Formed}
use Rattle.setter.proofs.agrees.Flat.{Deep}
use Rattle.setter.proofs.agrees.KindCases.{rank, or_cases, InlineKind, inline-kind, BlockKind, block-kind, Extra, tag, attr}

-- the group of an open record; the sheet's kind is 0
unfoldable pub group_of : Rec → ℕ
group_of r = if eqb r.kind 0 then parent_of_blocks else parent_group r.kind r.a

-- a kind that may stand under p
pub record Stands (p : Rec) (k : ℕ) : Type 0 where
  pub state : Open
  pub group : state.group ≡ group_of p
  pub kind : is_kind k ≡ true
  pub place : misplaced state k ≡ false

-- trees that may stand under p, none of a lower rank than m, and none than the one before it
unfoldable pub Placed : Rec → ℕ → Forest → Type 0
Placed p m no_tree = Unit {0}
Placed p m (tree r kids rest) = Stands p r.kind × (m ≤ rank r.kind) × Placed r 0 kids × Placed p (rank r.kind) rest

-- ---- the rank of a place under a group of parents
abbrev ranks : List (List ℕ)
ranks =
    (0 ∷ 2 ∷ 2 ∷ 2 ∷ [])
    ∷ (0 ∷ 2 ∷ 2 ∷ 2 ∷ [])
    ∷ (0 ∷ 2 ∷ 2 ∷ 2 ∷ [])
    ∷ (0 ∷ 2 ∷ 2 ∷ 2 ∷ [])
    ∷ (0 ∷ 1 ∷ 1 ∷ 1 ∷ [])
    ∷ (0 ∷ 0 ∷ 1 ∷ 1 ∷ [])
    ∷ (0 ∷ 0 ∷ 1 ∷ 2 ∷ [])
    ∷ (0 ∷ 0 ∷ 2 ∷ 2 ∷ [])
    ∷ (0 ∷ 0 ∷ 1 ∷ 1 ∷ [])
    ∷ (0 ∷ 0 ∷ 0 ∷ 0 ∷ [])
    ∷ []

unfoldable rank_at : ℕ → ℕ → ℕ
rank_at g s = get_or (get_or ranks g []) s 0

unfoldable rising : ℕ → Bool
rising g = all_below (λ j. all_below (λ i. not (leb i j) || leb (rank_at g i) (rank_at g j)) 4) 4

unfoldable zeroed : ℕ → Bool
zeroed g = eqb (rank_at g 0) 0

unfoldable ranked : ℕ → Bool
ranked g = all_below (λ k. not (is_kind k && not (eqb (place_of g k) 0)) || (ltb (place_of g k) 4 && eqb (rank_at g (place_of g k)) (rank k))) 54

all-rising : all_below rising 10 ≡ true
unfolding all_below rising rank_at
all-rising = refl

all-zeroed : all_below zeroed 10 ≡ true
unfolding all_below zeroed rank_at
all-zeroed = refl

all-ranked : all_below ranked 10 ≡ true
unfolding all_below ranked rank_at place_of holds place_in child_group rank
all-ranked = refl

module _ (g : ℕ) (h : g < 10) where
  rank-zero : rank_at g 0 ≡ 0
  unfolding zeroed
  rank-zero = eqb-true _ _ (each zeroed 10 all-zeroed g h)

  rank_rises : (i j : ℕ) → i ≤ j → j < 4 → rank_at g i ≤ rank_at g j
  unfolding rising
  rank_rises i j d b =
      let f : all_below (λ i. not (leb i j) || leb (rank_at g i) (rank_at g j)) 4 ≡ true = each (λ j. all_below (λ i. not (leb i j) || leb (rank_at g i) (rank_at g j)) 4) 4 (each rising 10 all-rising g h) j b in
      let e : leb i j ≡ true = le-leb i j d in
      leb-true _ _ (rw e at (each (λ i. not (leb i j) || leb (rank_at g i) (rank_at g j)) 4 f i (omega arith)))

  rank-place : (k : ℕ) → is_kind k ≡ true → eqb (place_of g k) 0 ≡ false → (place_of g k < 4) × (rank_at g (place_of g k) ≡ rank k)
  unfolding ranked
  rank-place k c n =
      let f : (ltb (place_of g k) 4 && eqb (rank_at g (place_of g k)) (rank k)) ≡ true = rw (c, n) at (each (λ k. not (is_kind k && not (eqb (place_of g k) 0)) || (ltb (place_of g k) 4 && eqb (rank_at g (place_of g k)) (rank k))) 54 (each ranked 10 all-ranked g h) k (kind-below k c)) in
      (ltb-true _ _ (and_left _ _ f), eqb-true _ _ (and_right (ltb (place_of g k) 4) _ f))

-- ---- there are ten groups
either : (b : Bool) (x y : ℕ) → x < 10 → y < 10 → (if b then x else y) < 10
either true x y p q = p
either false x y p q = q

group-below : (p : Rec) → group_of p < 10
unfolding group_of parent_group other_group
group-below p =
    either (eqb p.kind 0) 0 _ (omega arith)
    (either (among p.kind (block_quote ∷ alert ∷ footnote_definition ∷ item ∷ [])) 0 _ (omega arith)
    (either (eqb p.kind list) 1 _ (omega arith)
    (either (eqb p.kind table) 2 _ (omega arith)
    (either (eqb p.kind row) 3 _ (omega arith)
    (either (among p.kind (paragraph ∷ heading ∷ cell ∷ emphasis ∷ strong ∷ delete ∷ mark ∷ link ∷ image ∷ link_reference ∷ image_reference ∷ inline_footnote ∷ [])) 4 _ (omega arith)
    (either (among p.kind (leaf_directive ∷ text_directive ∷ [])) 5 _ (omega arith)
    (either (eqb p.kind container_directive) 6 _ (omega arith)
    (either (eqb p.kind html_container) _ 9 (either (eqb p.a 0) 7 8 (omega arith) (omega arith)) (omega arith)))))))))

-- ---- a formed forest
group-of : (r : Rec) → is_kind r.kind ≡ true → parent_group r.kind r.a ≡ group_of r
unfolding group_of
group-of r h = go (eqb r.kind 0) refl
  where
    go : (b : Bool) → eqb r.kind 0 ≡ b → parent_group r.kind r.a ≡ (if eqb r.kind 0 then parent_of_blocks else parent_group r.kind r.a)
    go true e = let z : is_kind 0 ≡ true = rw (eqb-true r.kind 0 e) at h in absurd (false≢true z)
    go false e = rw e

placed-from : (bytes : List ℕ) (l : ℕ) (o : Open) (p : Rec) (ts : Forest) → Formed bytes l o ts → o.group ≡ group_of p → Placed p (rank_at (group_of p) o.stage) ts
unfolding Formed Placed before_children after_child
placed-from bytes l o p no_tree h e = tt
placed-from bytes l o p (tree r kids rest) h e =
    let c : is_kind r.kind ≡ true = h.0.kind in
    let q = rank-place (group_of p) (group-below p) r.kind c (rw e at (has-place o r.kind h.0.place)) in
    let s : o.stage ≤ place_of (group_of p) r.kind = rw e at (in_order o r.kind h.0.place) in
    let up : rank_at (group_of p) o.stage ≤ rank_at (group_of p) (place_of (group_of p) r.kind) = rank_rises (group_of p) (group-below p) _ _ s q.0 in
    let k = placed-from bytes (l + 1) (before_children (parent_group r.kind r.a)) r kids h.1 (first-has-group _ ∙ group-of r c) in
    let t = placed-from bytes l (after_child o r.kind) p rest h.2 (child-keeps-group o r.kind ∙ e) in
    (record { state = o; group = e; kind = c; place = h.0.place }, omega (arith, q.1), rw (rank-zero (group_of r) (group-below r)) at k, rw (e, q.1) at t)

-- the trees of the sheet
pub placed_of : (bytes : List ℕ) (ts : Forest) → Formed bytes 0 (before_children parent_of_blocks) ts → Placed the_sheet.of 0 ts
unfolding before_children group_of
placed_of bytes ts h = rw (rank-zero 0 (omega arith)) at (placed-from bytes 0 (before_children parent_of_blocks) the_sheet.of ts h refl)

pub deep_of : (bytes : List ℕ) (l : ℕ) (o : Open) (ts : Forest) → Formed bytes l o ts → Deep l ts
unfolding Formed Deep
deep_of bytes l o no_tree h = tt
deep_of bytes l o (tree r kids rest) h =
    (h.0.level ∙ add-one l, rw h.0.level (deep_of bytes (l + 1) _ kids h.1), deep_of bytes l _ rest h.2)

-- ---- what stands under each group
module _ (p : Rec) (k : ℕ) (s : Stands p k) where
  pub under-blocks : group_of p ≡ parent_of_blocks → BlockKind k
  under-blocks e = block-kind k (blocks-only s.state k (s.group ∙ e) s.kind s.place)

  pub under-list : group_of p ≡ parent_of_items → k ≡ item
  under-list e = eqb-true _ _ (items-only s.state k (s.group ∙ e) s.kind s.place)

  pub under_table : group_of p ≡ parent_of_rows → k ≡ row
  under_table e = eqb-true _ _ (rows-only s.state k (s.group ∙ e) s.kind s.place)

  pub under-row : group_of p ≡ parent_of_cells → k ≡ cell
  under-row e = eqb-true _ _ (cells-only s.state k (s.group ∙ e) s.kind s.place)

  pub under-inlines : group_of p ≡ parent_of_inlines → InlineKind k
  under-inlines e = inline-kind k (inlines-only s.state k (s.group ∙ e) s.kind s.place)

  pub under-label : group_of p ≡ parent_of_label → Extra k ⊎ InlineKind k
  under-label e =
      ⊎_elim (λ h. inl (attr (eqb-true _ _ h))) (λ h. inr (inline-kind k h)) (or_cases _ _ (label-only s.state k (s.group ∙ e) s.kind s.place))

  pub under-directive : group_of p ≡ parent_of_label_and_blocks → Extra k ⊎ (InlineKind k ⊎ BlockKind k)
  under-directive e =
      ⊎_elim (λ g. ⊎_elim (λ h. inl (attr (eqb-true _ _ h))) (λ h. inr (inl (inline-kind k h))) (or_cases _ _ g)) (λ h. inr (inr (block-kind k h))) (or_cases _ _ (label-and-blocks-only s.state k (s.group ∙ e) s.kind s.place))

  pub under-tags-blocks : group_of p ≡ parent_of_tags_and_blocks → Extra k ⊎ BlockKind k
  under-tags-blocks e =
      ⊎_elim (λ h. inl (tag (eqb-true _ _ h))) (λ h. inr (block-kind k h)) (or_cases _ _ (tags-and-blocks-only s.state k (s.group ∙ e) s.kind s.place))

  pub under-tags-inlines : group_of p ≡ parent_of_tags_and_inlines → Extra k ⊎ InlineKind k
  under-tags-inlines e =
      ⊎_elim (λ h. inl (tag (eqb-true _ _ h))) (λ h. inr (inline-kind k h)) (or_cases _ _ (tags-and-inlines-only s.state k (s.group ∙ e) s.kind s.place))

  pub under-nothing : group_of p ≡ parent_of_nothing → ⊥
  under-nothing e = false≢true (nothing-there s.state k (s.group ∙ e) s.kind s.place)

-- a record that holds nothing
pub leaf : (p : Rec) (m : ℕ) (ts : Forest) → Placed p m ts → group_of p ≡ parent_of_nothing → ts ≡ no_tree
unfolding Placed
leaf p m no_tree h g = refl
leaf p m (tree r kids rest) h g = absurd (under-nothing p r.kind h.0 g)

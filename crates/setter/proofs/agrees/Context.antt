-- What the stops and the paths go by, at a record of a known kind; and what a forest leaves on the pile.
use mathlib.Core.Path.{◌≡◌, refl, ap, sym, ◌∙◌}
use mathlib.Core.Bool.{Bool, true, false, ◌&&◌, and_assoc, and_comm}
use mathlib.Core.List.{List, [], ◌∷◌, ◌++◌, append_assoc, append-nil}
use Prim.Native.Nat.{ℕ, ◌+◌}
use native.Mathlib.Omega.{arith}
use lib.ListN.{length}
use Rattle.leaves.specs.Sheet.Kinds.{is_block, is_inline}
use Rattle.leaves.specs.Sheet.Forest.{Forest, no_tree, tree, count_trees}
use Rattle.leaves.specs.declared.sheet.records.Rec.{Rec}
use Rattle.leaves.specs.Refusal.Groups.{parent_of_inlines}
use Rattle.leaves.specs.Sheet.Empty.{is_empty_text}
use Rattle.inlines.specs.Content.{all_empty}
use Rattle.inlines.proofs.ContentLaws.{all_empty-none, all_empty-tree}
use Rattle.setter.specs.Steps.{Frame}
use Rattle.setter.specs.Machine.{in_path, frame_path, block_path, position}
use Rattle.setter.specs.Seen.{siblings, nearest, only_empty}
use Rattle.setter.specs.Agrees.{Begins}
use Rattle.setter.proofs.agrees.Flat.{pile, filled}
use Rattle.setter.proofs.agrees.KindCases.{rank, inliny}
use Rattle.setter.proofs.agrees.Placed.{group_of, Placed, under-inlines}

-- the innermost block's path begins the path
pub begins : (st : List Frame) → Begins (block_path st) (frame_path st)
unfolding block_path frame_path
begins [] = ([], refl)
begins (f ∷ st) = go (is_block f.of.kind) refl (in_path f.of.kind) refl (begins st)
  where
    go : (b : Bool) → is_block f.of.kind ≡ b → (c : Bool) → in_path f.of.kind ≡ c → Begins (block_path st) (frame_path st) → Begins (block_path (f ∷ st)) (frame_path (f ∷ st))
    go true e c g ih = rw e ([], sym (append-nil _))
    go false e true g ih = rw (e, rw e at g) (ih.0 ++ position (siblings st) ∷ [], ap (λ (l : List ℕ). l ++ position (siblings st) ∷ []) ih.1 ∙ append_assoc (block_path st) ih.0 _)
    go false e false g ih = rw (e, rw e at g) ih

-- whatever has closed under it
pub begins-filled : (f : Frame) (st : List Frame) (ks : List Rec) → Begins (block_path (filled f ks ∷ st)) (frame_path (f ∷ st))
unfolding frame_path
begins-filled f st ks = begins (filled f ks ∷ st)

pub begins-more : (p q t : List ℕ) → Begins p q → Begins p (q ++ t)
begins-more p q t h = (h.0 ++ t, ap (λ (l : List ℕ). l ++ t) h.1 ∙ append_assoc p h.0 t)

-- what a path counts, and what is no block
pub path-indexed : (f : Frame) (st : List Frame) → in_path f.of.kind ≡ true → frame_path (f ∷ st) ≡ frame_path st ++ position (siblings st) ∷ []
unfolding frame_path
path-indexed f st h = rw h

pub place_other : (f : Frame) (st : List Frame) → is_block f.of.kind ≡ false → block_path (f ∷ st) ≡ block_path st
unfolding block_path
place_other f st h = rw h

pub nearest-inline : (f : Frame) (st : List Frame) → is_inline f.of.kind ≡ true → nearest (f ∷ st) ≡ nearest st
unfolding nearest
nearest-inline f st h = rw h

-- the pile
pub empty-pile : (p : Rec) (m : ℕ) (ts : Forest) (ks : List Rec) → group_of p ≡ parent_of_inlines → Placed p m ts → only_empty (pile ts ks) ≡ (all_empty ts && only_empty ks)
unfolding only_empty pile Placed
empty-pile p m no_tree ks e h = rw all_empty-none
empty-pile p m (tree r kids rest) ks e h =
    let i : is_inline r.kind ≡ true = (inliny r.kind (under-inlines p r.kind h.0 e)).an_inline in
    rw (all_empty-tree r kids rest, i) (empty-pile p (rank r.kind) rest (r ∷ ks) e h.3 ∙ sym (and_assoc (all_empty rest) (is_empty_text r) (only_empty ks)) ∙ ap (λ (b : Bool). b && only_empty ks) (and_comm (all_empty rest) (is_empty_text r)))

pub empty-kids : (r : Rec) (ts : Forest) → group_of r ≡ parent_of_inlines → Placed r 0 ts → only_empty (pile ts []) ≡ all_empty ts
unfolding only_empty
empty-kids r ts e h = empty-pile r 0 ts [] e h ∙ go (all_empty ts)
  where
    go : (b : Bool) → (b && true) ≡ b
    go true = refl
    go false = refl

pub length-pile : (ts : Forest) (ks : List Rec) → length (pile ts ks) ≡ count_trees ts + length ks
unfolding pile count_trees
length-pile no_tree ks = omega arith
length-pile (tree r kids rest) ks = omega (arith, length-pile rest (r ∷ ks))

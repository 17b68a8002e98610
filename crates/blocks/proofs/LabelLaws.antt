-- The label of a directive: the records before its first block, cut off as a sheet of their own.
use mathlib.Core.Bool.{Bool, true, false}
use mathlib.Core.List.{List}
use Prim.Native.Nat.{ℕ, zero, suc, ◌+◌, ◌-◌, ◌<◌, ◌≤◌}
use native.Mathlib.Omega.{arith}
use borrow.Author.Tests.{ltb-true, ltb-false, leb-true, leb-false}
use lib.Dec.{ltb, leb}
use Rattle.leaves.specs.Sheet.Kinds.{is_block}
use Rattle.leaves.specs.Sheet.Records.{record_at}
use Rattle.leaves.specs.declared.sheet.records.Rec.{Rec}
use Rattle.leaves.specs.declared.sheet.records.Span.{Span}
use Rattle.leaves.specs.declared.sheet.records.Text.{Text}
use Rattle.leaves.proofs.sheet.ForestLaws.{under-in, under-out, under-end, under-fits}
use Rattle.inlines.specs.Single.{validate_directive_name}
use Rattle.inlines.specs.Attribute.{validate_directive_attributes}
use Rattle.inlines.specs.Depth.{validate_one_line}
use Rattle.leaves.proofs.sheet.ForestLaws.{behind_kids}
use Rattle.inlines.specs.Nodes.{validate_inlines}
use Rattle.blocks.specs.Label.{before_blocks, validate_directive}
use mathlib.Core.Path.{◌≡◌, refl, sym, ap, ◌∙◌}
use Rattle.leaves.specs.Sheet.Forest.{Forest, no_tree, tree, under, size}
use Rattle.leaves.specs.Sheet.Trees.{trees, Until, Moved, ReadsNext, Ends}
use Rattle.leaves.specs.Report.Listed.{path_of, Adds}
use Rattle.leaves.specs.declared.sheet.trees.Records.{Records}
use Rattle.leaves.specs.declared.report.entries.Report.{Report}
use Rattle.leaves.proofs.report.ListedLaws.{adds-then}
use Rattle.leaves.proofs.sheet.TreesLaws.{moved-not, moved-then, reads-tree, reads-first, behind-next, behind-moved}
use Rattle.inlines.specs.Walk.{Walked}

-- ---- cutting a sheet behind some trees leaves them as they are
none_of : (f : Forest) → size f ≤ 0 → f ≡ no_tree
unfolding size
none_of no_tree h = refl
none_of (tree r kids rest) h = absurd (omega arith)

module _ (w : List ℕ) (n m : ℕ) (fits : m ≤ n) where
  cut : (k a l : ℕ) → m - a ≤ k → a + size (under w n a l) ≤ m → under w m a l ≡ under w n a l
  unfolding size
  cut zero a l h s = under-end w m a l (omega arith) ∙ sym (none_of (under w n a l) (omega arith))
  cut (suc k) a l h s = go (λ b o. cut k b o) (leb m a) refl (ltb l (record_at w a).level) refl
    where
      go : ((b o : ℕ) → m - b ≤ k → b + size (under w n b o) ≤ m → under w m b o ≡ under w n b o) → (t : Bool) → leb m a ≡ t → (d : Bool) → ltb l (record_at w a).level ≡ d → under w m a l ≡ under w n a l
      go ih true t d e = let b : m ≤ a = leb-true m a t in under-end w m a l b ∙ sym (none_of (under w n a l) (omega arith))
      go ih false t false e = let b : a < m = leb-false m a t in under-out w m a l b (ltb-false _ _ e) ∙ sym (under-out w n a l (omega arith) (ltb-false _ _ e))
      go ih false t true e =
          let b : a < m = leb-false m a t in
          let d : l < (record_at w a).level = ltb-true _ _ e in
          let r = record_at w a in
          let o : under w n a l ≡ tree r (under w n (a + 1) r.level) (under w n (behind_kids w n a) l) = under-in w n a l (omega arith) d in
          let z : a + suc (size (under w n (a + 1) r.level) + size (under w n (behind_kids w n a) l)) ≤ m = rw o at s in
          let kids : under w m (a + 1) r.level ≡ under w n (a + 1) r.level = ih (a + 1) r.level (omega arith) (omega arith) in
          let rest : under w m (behind_kids w n a) l ≡ under w n (behind_kids w n a) l = ih (behind_kids w n a) l (omega arith) (omega arith) in
          under-in w m a l b d ∙ rw (kids, rest) (sym o)

-- ---- the label
fewer : (f : Forest) → size (before_blocks f) ≤ size f
unfolding before_blocks size
fewer no_tree = omega arith
fewer (tree r kids rest) = go (is_block r.kind) refl (fewer rest)
  where
    go : (b : Bool) → is_block r.kind ≡ b → size (before_blocks rest) ≤ size rest → size (before_blocks (tree r kids rest)) ≤ size (tree r kids rest)
    go true e h = rw e (omega arith)
    go false e h = rw e (omega arith)

label-stop : (w : List ℕ) (a l : ℕ) (f : Forest) → f ≡ no_tree → under w (a + size f) a l ≡ f
unfolding size
label-stop w a l f e = rw e (under-end w (a + 0) a l (omega arith))

module _ (r : Rec) (kids rest : Forest) where
  label-block : is_block r.kind ≡ true → before_blocks (tree r kids rest) ≡ no_tree
  unfolding before_blocks
  label-block e = rw e

  label-other : is_block r.kind ≡ false → before_blocks (tree r kids rest) ≡ tree r kids (before_blocks rest)
  unfolding before_blocks
  label-other e = rw e

label-none : before_blocks no_tree ≡ no_tree
unfolding before_blocks
label-none = refl

module _ (w : List ℕ) (n l : ℕ) where
  abbrev label : ℕ → Forest
  label a = before_blocks (under w n a l)

  module _ (a : ℕ) where
    label-end : n ≤ a → label a ≡ no_tree
    label-end h = rw (under-end w n a l h) label-none

    label-out : a < n → (record_at w a).level ≤ l → label a ≡ no_tree
    label-out h d = rw (under-out w n a l h d) label-none

    label_at : a < n → l < (record_at w a).level → is_block (record_at w a).kind ≡ true → label a ≡ no_tree
    label_at h d e = rw (under-in w n a l h d) (label-block (record_at w a) _ _ e)

    label-in : a < n → l < (record_at w a).level → is_block (record_at w a).kind ≡ false → label a ≡ tree (record_at w a) (under w n (a + 1) (record_at w a).level) (label (behind_kids w n a))
    label-in h d e = rw (under-in w n a l h d) (label-other (record_at w a) _ _ e)

  -- the records up to the first block, as a sheet of their own, hold the label
  label-cut : (k a : ℕ) → n - a ≤ k → a ≤ n → under w (a + size (label a)) a l ≡ label a
  unfolding size
  label-cut zero a h b = label-stop w a l (label a) (label-end a (omega arith))
  label-cut (suc k) a h b = go (λ j. label-cut k j) (leb n a) refl (ltb l (record_at w a).level) refl (is_block (record_at w a).kind) refl
    where
      go : ((j : ℕ) → n - j ≤ k → j ≤ n → under w (j + size (label j)) j l ≡ label j) → (t : Bool) → leb n a ≡ t → (d : Bool) → ltb l (record_at w a).level ≡ d → (e : Bool) → is_block (record_at w a).kind ≡ e → under w (a + size (label a)) a l ≡ label a
      go ih true t d x e y = label-stop w a l (label a) (label-end a (leb-true n a t))
      go ih false t false x e y = label-stop w a l (label a) (label-out a (leb-false n a t) (ltb-false _ _ x))
      go ih false t true x true y = label-stop w a l (label a) (label_at a (leb-false n a t) (ltb-true _ _ x) y)
      go ih false t true x false y =
          let s : a < n = leb-false n a t in
          let d : l < (record_at w a).level = ltb-true _ _ x in
          let r = record_at w a in
          let j = behind_kids w n a in
          let m = a + size (label a) in
          let o : label a ≡ tree r (under w n (a + 1) r.level) (label j) = label-in a s d y in
          let z : m ≡ j + size (label j) = rw o (omega arith) in
          let f : j + size (under w n j l) ≤ n = under-fits w n j l (under-fits w n (a + 1) r.level (omega arith)) in
          let q : m ≤ n = omega (arith, fewer (under w n j l)) in
          let kids : under w m (a + 1) r.level ≡ under w n (a + 1) r.level = cut w n m q m (a + 1) r.level (omega arith) (omega arith) in
          let rest : under w m j l ≡ label j = rw z (ih j (omega arith) (omega arith)) in
          under-in w m a l (omega arith) d ∙ rw (kids, rest) (sym o)

-- ---- `label_end`: the search for the label's end began at x and stands at y
pub record Labelling (level : ℕ) (x y : Records) : Type 0 where
  pub moved : Moved x y y.next
  pub gone : y.next + size (before_blocks (trees y level)) ≡ x.next + size (before_blocks (trees x level))

module _ {level : ℕ} {x : Records} where
  pub labelling-start : Labelling level x x
  labelling-start = record { moved = moved-not x level; gone = refl }

  module _ {y : Records} (v : Labelling level x y) where
    stop : before_blocks (trees y level) ≡ no_tree → y.next ≡ x.next + size (before_blocks (trees x level))
    unfolding size
    stop e = let z : size (before_blocks (trees y level)) ≡ 0 = rw e in omega (arith, v.gone)

    pub labelling-end : {z : Records} → Ends y z level → y.next ≡ x.next + size (before_blocks (trees x level))
    labelling-end e = stop (rw e.empty label-none)

    module _ {z : Records} {r : Rec} {b : Bool} (reads : ReadsNext y z level r) (g : b ≡ is_block r.kind) where
      pub labelling-block : b ≡ true → y.next ≡ x.next + size (before_blocks (trees x level))
      labelling-block t = stop (rw (reads-first reads) (label-block r _ _ (rw g at t)))

      pub labelling-turn : {u : Records} → b ≡ false → Moved z u (z.next + size (trees z r.level)) → Labelling level x u
      unfolding size
      labelling-turn {u} t m =
          let t' : is_block r.kind ≡ false = rw g at t in
          let o : before_blocks (trees y level) ≡ tree r (trees z r.level) (before_blocks (trees u level)) = ap before_blocks (reads-tree reads m) ∙ label-other r _ _ t' in
          let n : u.next ≡ y.next + 1 + size (trees z r.level) = behind-next reads m in
          let s : size (before_blocks (trees y level)) ≡ suc (size (trees z r.level) + size (before_blocks (trees u level))) = ap size o in
          record { moved = moved-then v.moved (behind-moved reads m); gone = omega (arith, v.gone) }

-- ---- `validate_directive`
module _ (k : Records) (level : ℕ) {m : ℕ} (e : m ≡ k.next + size (before_blocks (trees k level))) where
  -- the label ends where the sheet does, or before
  pub label-inside : (k.next ≤ m) × (m ≤ k.n)
  label-inside =
      let i : k.next ≤ k.n = k.inside in
      let f : k.next + size (trees k level) ≤ k.n = under-fits k.sheet.now k.n k.next level i in
      (omega arith, omega (arith, fewer (trees k level)))

  pub label-trees : {j : Records} → Until k j m → trees j level ≡ before_blocks (trees k level)
  label-trees u =
      let i : k.next ≤ k.n = k.inside in
      let c : under k.sheet.now (k.next + size (before_blocks (trees k level))) k.next level ≡ before_blocks (trees k level) = label-cut k.sheet.now k.n level k.n k.next (omega arith) i in
      rw (u.sheet, u.n, u.next, e) c

pub directive-done : (rule : ℕ) (span : Span) (name : Text) {k j a b c : Records} {level m : ℕ} {x y z o p : Report} → m ≡ k.next + size (before_blocks (trees k level)) → Adds x y (validate_directive_name k.bytes.now (path_of x) span name) → Until k j m → Walked j a level y z (validate_directive_attributes j.bytes.now (path_of y) (trees j level)) → Walked j b level z o (validate_inlines j.bytes.now (path_of z) (trees j level)) → Walked j c level o p (validate_one_line rule (path_of o) (trees j level)) → Adds x p (validate_directive k.bytes.now (path_of x) rule span name (trees k level))
unfolding validate_directive
directive-done rule span name {k} {level = level} e l u f g h =
    let t = label-trees k level e u in
    let s = u.bytes in
    adds-then l (adds-then (rw (t, s, l.path) at f.adds) (adds-then (rw (t, s, f.adds.path, l.path) at g.adds) (rw (t, g.adds.path, f.adds.path, l.path) at h.adds)))

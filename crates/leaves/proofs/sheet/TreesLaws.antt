-- Laws of the records as a walk reads them: what is read, what is passed over, and what is left.
use mathlib.Core.Path.{◌≡◌, refl, sym, ap, ◌∙◌}
use Prim.Native.Nat.{ℕ, suc, ◌+◌, ◌<◌, ◌≤◌}
use native.Mathlib.Omega.{arith}
use Rattle.leaves.specs.Sheet.Records.{record_at}
use Rattle.leaves.specs.Sheet.Forest.{tree, under, size}
use Rattle.leaves.specs.Sheet.Trees.{trees, Moved, ReadsNext, Ends}
use Rattle.leaves.specs.declared.sheet.records.Rec.{Rec}
use Rattle.leaves.specs.declared.sheet.trees.Records.{Records}
use Rattle.leaves.proofs.sheet.ForestLaws.{under-in, under-out, under-end, size_step}
use Rattle.leaves.proofs.sheet.ForestLaws.{behind_kids}

-- ---- `next_under`: no record is left, or the next one is not deeper
module _ (x : Records) (level : ℕ) where
  pub moved-not : Moved x x x.next
  moved-not = record { sheet = refl; bytes = refl; n = refl; next = refl }

  pub ends-past : x.next ≡ x.n → Ends x x level
  ends-past e = record { empty = under-end x.sheet.now x.n x.next level (omega arith); moved = moved-not }

  pub ends-out : {r : Rec} → x.next < x.n → r ≡ record_at x.sheet.now x.next → r.level ≤ level → Ends x x level
  ends-out b e d = let d' : (record_at x.sheet.now x.next).level ≤ level = rw e at d in record { empty = under-out x.sheet.now x.n x.next level b d'; moved = moved-not }

-- ---- moving on

pub moved-then : {x y z : Records} {j k : ℕ} → Moved x y j → Moved y z k → Moved x z k
moved-then a b = record { sheet = b.sheet ∙ a.sheet; bytes = b.bytes ∙ a.bytes; n = b.n ∙ a.n; next = b.next }

pub moved-at : {x y : Records} {j k : ℕ} → Moved x y j → j ≡ k → Moved x y k
moved-at a e = record { sheet = a.sheet; bytes = a.bytes; n = a.n; next = a.next ∙ e }

-- what is next for y, by the sheet of x
pub trees-moved : {x y : Records} {j : ℕ} (level : ℕ) → Moved x y j → trees y level ≡ under x.sheet.now x.n j level
trees-moved level a = rw (a.sheet, a.n, a.next)

-- y reads r, and z is behind it; u is behind all that stands under r as well
module _ {y z : Records} {level : ℕ} {r : Rec} (reads : ReadsNext y z level r) where
  pub reads-deep : level < (record_at y.sheet.now y.next).level
  reads-deep = rw (← reads.is) reads.deep

  pub reads-most : r.level ≤ 64
  reads-most = rw reads.is (y.shallow y.next reads.inside)

  pub reads-level : r.level ≡ (record_at y.sheet.now y.next).level
  reads-level = rw reads.is

  pub reads-kids : trees z r.level ≡ under y.sheet.now y.n (y.next + 1) (record_at y.sheet.now y.next).level
  reads-kids = trees-moved r.level reads.moved ∙ rw reads-level

  -- the tree at r, by where the trees behind it begin
  pub reads-first : trees y level ≡ tree r (trees z r.level) (under y.sheet.now y.n (behind_kids y.sheet.now y.n y.next) level)
  reads-first =
      let k = reads-kids in
      let i = reads.is in
      rw (k, i) (under-in y.sheet.now y.n y.next level reads.inside reads-deep)

  -- one record further
  pub reads-step : size (trees y level) ≡ suc (size (trees z level))
  reads-step = size_step y.sheet.now y.n y.next level reads.inside reads-deep ∙ ap suc (ap size (sym (trees-moved level reads.moved)))

  module _ {u : Records} (behind : Moved z u (z.next + size (trees z r.level))) where
    pub behind-next : u.next ≡ y.next + 1 + size (trees z r.level)
    behind-next = behind.next ∙ rw reads.moved.next

    pub behind-moved : Moved y u u.next
    behind-moved = moved-at (moved-then reads.moved behind) (sym behind.next)

    -- the tree at r, its children, and the trees behind it
    pub reads-tree : trees y level ≡ tree r (trees z r.level) (trees u level)
    reads-tree =
        let k = reads-kids in
        let i = reads.is in
        let e : trees u level ≡ under y.sheet.now y.n (y.next + 1 + size (trees z r.level)) level = trees-moved level (moved-at behind-moved behind-next) in
        rw (e, k, i) (under-in y.sheet.now y.n y.next level reads.inside reads-deep)

-- ---- a walk over the trees deeper than a level began at x and stands at y
pub record Passing (x y : Records) (level : ℕ) : Type 0 where
  pub moved : Moved x y y.next
  pub gone : y.next + size (trees y level) ≡ x.next + size (trees x level)

module _ (x : Records) (level : ℕ) where
  pub passing-start : Passing x x level
  passing-start = record { moved = moved-not x level; gone = refl }

module _ {x y z : Records} {level : ℕ} (v : Passing x y level) where
  -- one record further ..
  pub passing-step : {r : Rec} → ReadsNext y z level r → Passing x z level
  passing-step reads =
      let s = reads-step reads in
      let n : z.next ≡ y.next + 1 = reads.moved.next in
      record { moved = moved-then v.moved (moved-at reads.moved (sym n)); gone = omega (arith, v.gone) }

  -- .. or one tree
  pub passing-tree : {u : Records} {r : Rec} → ReadsNext y z level r → Moved z u (z.next + size (trees z r.level)) → Passing x u level
  unfolding size
  passing-tree {u} {r} reads behind =
      let t : size (trees y level) ≡ suc (size (trees z r.level) + size (trees u level)) = ap size (reads-tree reads behind) in
      let n : u.next ≡ y.next + 1 + size (trees z r.level) = behind-next reads behind in
      record { moved = moved-then v.moved (behind-moved reads behind); gone = omega (arith, v.gone) }

  pub passing-end : Ends y z level → Moved x z (x.next + size (trees x level))
  unfolding size
  passing-end e =
      let t : size (trees y level) ≡ 0 = ap size e.empty in
      moved-at (moved-then v.moved e.moved) (omega (arith, v.gone))

-- the same records once more
pub passing-same : {x y u : Records} {level : ℕ} → Passing x y level → Moved y u y.next → Passing x u level
passing-same {y = y} {u} {level} v m =
    let t = trees-moved level m in
    let n : u.next ≡ y.next = m.next in
    record { moved = moved-then v.moved (moved-at m (sym n)); gone = rw t (omega (arith, v.gone)) }

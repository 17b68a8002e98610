-- A loop that goes from tree to tree and enters each, by its index: its laws, over any list.
use mathlib.Core.Path.{◌≡◌, ap, ◌∙◌}
use mathlib.Core.List.{List, [], ◌∷◌, ◌++◌}
use Prim.Native.Nat.{ℕ, ◌+◌, ◌<◌, ◌≤◌}
use native.Mathlib.Omega.{arith}
use Rattle.leaves.specs.Sheet.Forest.{Forest}
use Rattle.leaves.specs.Sheet.Trees.{trees, ReadsNext}
use Rattle.leaves.specs.Report.Entries.{Entry, ◌⊕◌}
use Rattle.leaves.specs.Report.Listed.{path_of, Adds, Enters, Leaves}
use Rattle.leaves.specs.declared.sheet.records.Rec.{Rec}
use Rattle.leaves.specs.declared.sheet.trees.Records.{Records}
use Rattle.leaves.specs.declared.report.entries.Report.{Report}
use Rattle.leaves.proofs.sheet.TreesLaws.{Passing, reads-most}
use Rattle.leaves.proofs.report.ListedLaws.{adds-then, visit, visit-depth}
use Rattle.inlines.proofs.WalkLaws.{Loop, loop-start, loop-turn, loop-path}

-- the loop's next tree would be the k-th
pub record Paced (es : List Entry) (h : Forest → List Entry) (x y : Records) (p q : Report) (k : ℕ) : Type 0 where
  pub loop : Loop es h p.level x y p q
  pub few : k ≤ y.next

module _ {x : Records} {p : Report} where
  pub paced-start : (h : Forest → List Entry) → Paced (h (trees x p.level)) h x x p p 0
  paced-start h = record { loop = loop-start h; few = omega arith }

  module _ {es : List Entry} {h : Forest → List Entry} {y : Records} {q : Report} {k : ℕ} (v : Paced es h x y p q k) where
    -- the tree that was read can be entered: its record is deeper than where the report stands, and no level is above 64
    pub paced-enter : {z : Records} {r : Rec} → ReadsNext y z p.level r → (q.level < r.level) × (r.level ≤ 64)
    paced-enter reads = let l : q.level ≡ p.level = v.loop.adds.level in let d = reads.deep in (omega arith, reads-most reads)

    module _ {a : Report} {m : ℕ} (e : Enters q a k m) where
      -- the path of the tree that was entered
      pub paced-path : path_of a ≡ path_of p ++ k ∷ []
      paced-path = e.path ∙ ap (λ l. l ++ k ∷ []) (loop-path v.loop)

      module _ {b : Report} {fs : List Entry} (d : Adds a b fs) where
        -- .. and it can be left
        pub paced-leave : (0 < b.depth) × (b.depth ≤ p.level + 1) × (p.level ≤ 64)
        paced-leave =
            let n : b.depth ≡ q.depth + 1 = visit-depth e d in
            let l : q.level ≡ p.level = v.loop.adds.level in
            let s : q.depth ≤ q.level = q.short in
            (omega arith, omega arith, p.shallow)

        pub paced-visit : {o : Report} → Leaves b o p.level → Adds q o fs
        paced-visit c = visit e d (rw v.loop.adds.level c)

    -- a turn: some entries are listed, and the rest, g, of the records that u has next, where it would be the m-th
    pub paced-turn : {g : Forest → List Entry} {u : Records} {o : Report} {fs : List Entry} {m : ℕ} → Passing x u p.level → h (trees y p.level) ≡ fs ⊕ g (trees u p.level) → Adds q o fs → m ≤ u.next → Paced es g x u p o m
    paced-turn s e l few = record { loop = loop-turn v.loop s e l; few = few }

    -- the last turn
    pub paced-last : {o : Report} {fs : List Entry} → h (trees y p.level) ≡ fs → Adds q o fs → Adds p o es
    paced-last {fs = fs} e l =
        let r : v.loop.before ⊕ fs ≡ es = rw e at v.loop.rest in
        rw r at (adds-then v.loop.adds l)

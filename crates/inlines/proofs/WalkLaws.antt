-- Loops over the trees deeper than a level, from tree to tree.
use mathlib.Core.Path.{◌≡◌, refl, sym, ap, ◌∙◌}
use mathlib.Core.Bool.{Bool, true, false}
use mathlib.Core.List.{List, []}
use Prim.Native.Nat.{ℕ, ◌+◌, ◌-◌, ◌*◌, ◌<◌, ◌≤◌}
use native.Mathlib.Nat.{sub-add-eq}
use native.Mathlib.Omega.{arith}
use borrow.Author.Tests.{ltb-true, ltb-false}
use lib.Dec.{ltb}
use lib.ListN.{length}
use Rattle.leaves.specs.Refusal.Limits.{most_records, most_level}
use Rattle.leaves.specs.Refusal.Formed.{Sound}
use Rattle.leaves.specs.Sheet.Records.{record_at, records_of, record_words}
use Rattle.leaves.specs.Sheet.Forest.{Forest, no_tree, tree, deeper, after_deeper, forest_at, under, size}
use Rattle.leaves.specs.Sheet.Trees.{trees, ReadsNext, Ends}
use Rattle.leaves.specs.Report.Entries.{Entry, ◌⊕◌}
use Rattle.leaves.specs.Report.Listed.{path_of, Adds}
use Rattle.leaves.specs.declared.sheet.records.Rec.{Rec}
use Rattle.leaves.specs.declared.sheet.trees.Records.{Records}
use Rattle.leaves.specs.declared.report.entries.Report.{Report}
use Rattle.leaves.proofs.sheet.ForestLaws.{after-in, after-out, deeper-in, deeper-out, after-at, under-in}
use Rattle.leaves.proofs.sheet.TreesLaws.{Passing, passing-start, passing-end, reads-deep, reads-kids, trees-moved}
use Rattle.leaves.proofs.report.EntryLaws.{join-assoc, join-none, none-join}
use Rattle.leaves.proofs.report.ListedLaws.{adds-none, adds-then}
use Rattle.inlines.specs.Walk.{Walked}

-- ---- a list that goes from tree to tree
module _ (h : Forest → List Entry) (g : Rec → Forest → List Entry) (at_none : h no_tree ≡ []) (at-tree : (r : Rec) (kids rest : Forest) → h (tree r kids rest) ≡ g r kids ⊕ h rest) where
  -- the trees deeper than l are those deeper than m, and then the rest of them
  spine-split : (l m : ℕ) → l ≤ m → (f : Forest) → h (deeper l f) ≡ h (deeper m f) ⊕ h (deeper l (after_deeper m f))
  unfolding after_deeper deeper
  spine-split l m b no_tree = rw at_none (sym (none-join []))
  spine-split l m b (tree r kids rest) = go (ltb m r.level) refl (spine-split l m b rest)
    where
      go : (t : Bool) → ltb m r.level ≡ t → h (deeper l rest) ≡ h (deeper m rest) ⊕ h (deeper l (after_deeper m rest)) → h (deeper l (tree r kids rest)) ≡ h (deeper m (tree r kids rest)) ⊕ h (deeper l (after_deeper m (tree r kids rest)))
      go true e ih =
          let d : m < r.level = ltb-true _ _ e in
          rw (after-in m r kids rest d, deeper-in l r kids rest (omega arith), deeper-in m r kids rest d, at-tree r kids (deeper l rest), at-tree r kids (deeper m rest), ih) (sym (join-assoc (g r kids) (h (deeper m rest)) (h (deeper l (after_deeper m rest)))))
      go false e ih = rw (after-out m r kids rest (ltb-false _ _ e), deeper-out m r kids rest (ltb-false _ _ e), at_none) (sym (none-join (h (deeper l (tree r kids rest)))))

  module _ (w : List ℕ) (n i l : ℕ) (b : i < n) (d : l < (record_at w i).level) where
    -- record i with its kids, and then what comes after them
    pub spine-tree : h (under w n i l) ≡ g (record_at w i) (under w n (i + 1) (record_at w i).level) ⊕ h (under w n (i + 1 + size (under w n (i + 1) (record_at w i).level)) l)
    spine-tree = rw (under-in w n i l b d) (at-tree (record_at w i) _ _)

    -- its kids, and then what comes after them, are the records after it
    pub spine-kids : h (under w n (i + 1) l) ≡ h (under w n (i + 1) (record_at w i).level) ⊕ h (under w n (i + 1 + size (under w n (i + 1) (record_at w i).level)) l)
    spine-kids = rw (after-at, ← sub-add-eq n (i + 1)) at (spine-split l (record_at w i).level (omega arith) (forest_at w (n - (i + 1)) (i + 1)))

    -- where a record lists what its kids list as trees, the records after it list the whole
    spine-on : g (record_at w i) (under w n (i + 1) (record_at w i).level) ≡ h (under w n (i + 1) (record_at w i).level) → h (under w n i l) ≡ h (under w n (i + 1) l)
    spine-on e = spine-tree ∙ rw e (sym spine-kids)

  -- the same of a record that was read
  pub reads-on : {y z : Records} {level : ℕ} {r : Rec} → ReadsNext y z level r → g r (trees z r.level) ≡ h (trees z r.level) → h (trees y level) ≡ h (trees z level)
  reads-on {y} {z} {level} {r} reads e =
      let t : trees z level ≡ under y.sheet.now y.n (y.next + 1) level = trees-moved level reads.moved in
      rw t (spine-on y.sheet.now y.n y.next level reads.inside (reads-deep reads) (rw (reads-kids reads, reads.is) at e))

-- ---- a loop that lists es began at the records x, with the report p, and stands at y, with the report q: what lists the
-- rest, h, lists what the whole still lacks
pub record Loop (es : List Entry) (h : Forest → List Entry) (level : ℕ) (x y : Records) (p q : Report) : Type 0 where
  pub passing : Passing x y level
  pub before : List Entry
  pub adds : Adds p q before
  pub rest : before ⊕ h (trees y level) ≡ es

module _ {level : ℕ} {x : Records} {p : Report} where
  pub loop-start : (h : Forest → List Entry) → Loop (h (trees x level)) h level x x p p
  loop-start h = record { passing = passing-start x level; before = []; adds = adds-none; rest = none-join _ }

  module _ {es : List Entry} {h : Forest → List Entry} {y : Records} {q : Report} (v : Loop es h level x y p q) where
    -- the path is the one that the walk began with
    pub loop-path : path_of q ≡ path_of p
    loop-path = v.adds.path

    -- .. and so is the text
    pub loop-bytes : {z : Records} {r : Rec} → ReadsNext y z level r → z.bytes ≡ x.bytes
    loop-bytes reads = reads.moved.bytes ∙ v.passing.moved.bytes

    -- some entries are listed, and the rest, g, of the records that u has next
    pub loop-turn : {g : Forest → List Entry} {u : Records} {o : Report} {fs : List Entry} → Passing x u level → h (trees y level) ≡ fs ⊕ g (trees u level) → Adds q o fs → Loop es g level x u p o
    loop-turn {g} {u} {fs = fs} m e k =
        record {
          passing = m;
          before = v.before ⊕ fs;
          adds = adds-then v.adds k;
          rest = join-assoc v.before fs (g (trees u level)) ∙ ap (λ gs. v.before ⊕ gs) (sym e) ∙ v.rest;
        }

    pub loop-end : {z : Records} → h no_tree ≡ [] → Ends y z level → Walked x z level p q es
    loop-end e k =
        let r : v.before ≡ es = sym (join-none v.before) ∙ rw (k.empty, e) at v.rest in
        record { moved = passing-end v.passing k; adds = rw r at v.adds }

-- ---- the levels left. `left` levels are enough below `level` where both together are at least `most_level`. Then one
-- level less is enough below a deeper record, of the level m, and the number of a cycle of calls falls: twice the levels
-- left for a loop, and one more for a record. The walks take `levels_left` for `left`. Document 01: "remaining levels, at
-- most 64, are the falling number".
pub record Left (left level : ℕ) : Type 0 where
  pub enough : most_level ≤ left + level

pub record Falls (left m : ℕ) : Type 0 where
  pub some : 1 ≤ left
  pub rest : Left (left - 1) m
  pub less : 2 * (left - 1) + 1 < 2 * left

pub levels-fall : {left level m : ℕ} → Left left level → m ≤ most_level → level < m → Falls left m
levels-fall left most d = record { some = omega (arith, left.enough); rest = record { enough = omega (arith, left.enough) }; less = omega (arith, left.enough) }

-- ---- what acceptance gives a walk of the first n records of a sheet from record `from` on, with a path of at most
-- `most_level` words: the facts that `Records` and `Report` keep in their types
pub record WalkStart (w path : List ℕ) (n from : ℕ) : Type 0 where
  pub whole : n * record_words ≤ length w
  pub few : n ≤ most_records
  pub shallow : (i : ℕ) → i < n → (record_at w i).level ≤ most_level
  pub inside : from ≤ n
  pub short : length path ≤ most_level

pub start_of : {w bytes path : List ℕ} {n from : ℕ} → Sound w bytes → n ≡ records_of w → from ≤ n → length path ≤ most_level → WalkStart w path n from
start_of sound e b s = rw e (record { whole = omega (arith, sound.whole); few = sound.few; shallow = sound.shallow; inside = rw e at b; short = s })

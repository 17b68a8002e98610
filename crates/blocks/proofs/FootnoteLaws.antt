-- A footnote definition: one law for each way through a function of `footnote`.
use mathlib.Core.Bool.{Bool, true, false, ◌&&◌, ◌||◌}
use mathlib.Core.List.{List, [], ◌∷◌, ◌++◌}
use Prim.Native.Nat.{ℕ, ◌+◌}
use native.Mathlib.Omega.{arith}
use native.Mathlib.Numerals.{add-one}
use lib.Dec.{eqb}
use Rattle.leaves.specs.Sheet.Kinds.{blank_line}
use Rattle.leaves.specs.declared.sheet.records.Rec.{Rec}
use Rattle.leaves.specs.Report.Rules
use Rattle.blocks.specs.Footnote.{blank_line_at}
use mathlib.Core.Path.{◌≡◌, refl}
use Rattle.leaves.specs.Sheet.Forest.{Forest, no_tree, tree, count_trees, size}
use Rattle.leaves.specs.Sheet.Trees.{trees, Moved, ReadsNext}
use Rattle.leaves.specs.Report.Entries.{Entry, list_if, ◌⊕◌}
use Rattle.leaves.specs.Report.Listed.{path_of, Adds, Enters, Leaves}
use Rattle.leaves.specs.declared.sheet.trees.Records.{Records}
use Rattle.leaves.specs.declared.report.entries.Report.{Report}
use Rattle.leaves.proofs.report.EntryLaws.{none-join}
use Rattle.leaves.proofs.report.ListedLaws.{adds-none}
use Rattle.leaves.proofs.sheet.TreesLaws.{passing-tree, reads-tree, behind-next}
use Rattle.inlines.proofs.PathLaws.{Paced, paced-path, paced-visit, paced-turn, paced-last}

pub blank_none : (path : List ℕ) (k : ℕ) → blank_line_at path k no_tree ≡ []
unfolding blank_line_at
blank_none path k = refl

-- a block is a blank line at an end
abbrev is_fault : ℕ → ℕ → Bool → Bool
is_fault kind k last = eqb kind blank_line && (eqb k 0 || last)

module _ (path : List ℕ) (k : ℕ) (r : Rec) (kids rest : Forest) where
  blank-found : is_fault r.kind k (eqb (count_trees rest) 0) ≡ true → blank_line_at path k (tree r kids rest) ≡ list_if true Rules.blank_line_in_footnote r.span (path ++ k ∷ [])
  unfolding blank_line_at
  blank-found e = rw e

  blank-later : is_fault r.kind k (eqb (count_trees rest) 0) ≡ false → blank_line_at path k (tree r kids rest) ≡ [] ⊕ blank_line_at path (k + 1) rest
  unfolding blank_line_at
  blank-later e = rw (none-join, e, add-one k)

module _ {es : List Entry} {x y z u : Records} {p q : Report} {k : ℕ} {r : Rec} (v : Paced es (blank_line_at (path_of p) k) x y p q k) (reads : ReadsNext y z p.level r) (behind : Moved z u (z.next + size (trees z r.level))) where
  pub blank-listed : {a b o : Report} → Enters q a k r.level → Adds a b (list_if true Rules.blank_line_in_footnote r.span (path_of a)) → Leaves b o p.level → is_fault r.kind k (eqb (count_trees (trees u p.level)) 0) ≡ true → Adds p o es
  blank-listed n l c e =
      paced-last v (rw (reads-tree reads behind) (blank-found (path_of p) k r _ _ e)) (paced-visit v n (rw (paced-path v n) at l) c)

  pub blank-passed : is_fault r.kind k (eqb (count_trees (trees u p.level)) 0) ≡ false → Paced es (blank_line_at (path_of p) (k + 1)) x u p q (k + 1)
  blank-passed e =
      let n : u.next ≡ y.next + 1 + size (trees z r.level) = behind-next reads behind in
      paced-turn v (passing-tree v.loop.passing reads behind) (rw (reads-tree reads behind) (blank-later (path_of p) k r _ _ e)) adds-none (omega (arith, v.few))

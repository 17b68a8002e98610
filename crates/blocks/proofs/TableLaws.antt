-- A table's rows and cells, listed from tree to tree.
use mathlib.Core.Bool.{true, false, not}
use mathlib.Core.List.{List, [], ◌∷◌, ◌++◌}
use Prim.Native.Nat.{ℕ, ◌+◌}
use native.Mathlib.Omega.{arith}
use native.Mathlib.Numerals.{add-one}
use lib.Dec.{eqb}
use lib.ListN.{length}
use Rattle.leaves.specs.declared.sheet.records.Rec.{Rec}
use Rattle.leaves.specs.declared.sheet.records.Span.{Span}
use Rattle.leaves.specs.Report.Rules
use Rattle.inlines.specs.Depth.{validate_cell_values, validate_one_line}
use Rattle.inlines.specs.Nodes.{validate_inlines}
use Rattle.blocks.specs.Table.{header_width, validate_cell, validate_cells, validate_rows, validate_table}
use mathlib.Core.Path.{◌≡◌, refl, sym, ap, subst, ◌∙◌}
use Rattle.leaves.proofs.sheet.TreeLaws.{suc-some}
use Rattle.leaves.specs.Sheet.Forest.{Forest, no_tree, tree, count_trees}
use Rattle.leaves.specs.Sheet.Trees.{trees, ReadsNext}
use Rattle.leaves.specs.Sheet.Roots.{roots}
use Rattle.leaves.specs.Report.Entries.{Entry, list_if, ◌⊕◌}
use Rattle.leaves.specs.Report.Listed.{path_of, Adds, Enters, Leaves}
use Rattle.leaves.specs.declared.sheet.trees.Records.{Records}
use Rattle.leaves.specs.declared.report.entries.Report.{Report}
use Rattle.leaves.proofs.report.EntryLaws.{join-assoc}
use Rattle.leaves.proofs.report.ListedLaws.{adds-then, adds-from}
use Rattle.leaves.proofs.sheet.TreesLaws.{passing-tree, reads-tree, behind-next}
use Rattle.leaves.proofs.sheet.RootLaws.{length-roots}
use Rattle.inlines.specs.Walk.{Walked}
use Rattle.inlines.proofs.WalkLaws.{loop-bytes}
use Rattle.inlines.proofs.PathLaws.{Paced, paced-path, paced-visit, paced-turn}

-- ---- one cell
pub cell-done : {k a b c : Records} {level : ℕ} {x y z o : Report} → Walked k a level x y (validate_inlines k.bytes.now (path_of x) (trees k level)) → Walked k b level y z (validate_cell_values k.bytes.now (path_of y) (trees k level)) → Walked k c level z o (validate_one_line Rules.break_in_cell (path_of z) (trees k level)) → Walked k c level x o (validate_cell k.bytes.now (path_of x) (trees k level))
unfolding validate_cell
cell-done a b c = record { moved = c.moved; adds = adds-then a.adds (adds-then (rw a.adds.path at b.adds) (rw (b.adds.path, a.adds.path) at c.adds)) }

-- ---- the cells of a row
pub cells-none : (bytes path : List ℕ) (k : ℕ) → validate_cells bytes path k no_tree ≡ []
unfolding validate_cells
cells-none bytes path k = refl

cells-tree : (bytes path : List ℕ) (k : ℕ) (r : Rec) (kids rest : Forest) → validate_cells bytes path k (tree r kids rest) ≡ validate_cell bytes (path ++ k ∷ []) kids ⊕ validate_cells bytes path (k + 1) rest
unfolding validate_cells
cells-tree bytes path k r kids rest = rw (add-one k)

rows-tree : (bytes path : List ℕ) (width k : ℕ) (r : Rec) (kids rest : Forest) → validate_rows bytes path width k (tree r kids rest) ≡ (list_if (not (eqb (count_trees kids) width)) Rules.row_width r.span (path ++ k ∷ []) ⊕ validate_cells bytes (path ++ k ∷ []) 0 kids) ⊕ validate_rows bytes path width (k + 1) rest
unfolding validate_rows
rows-tree bytes path width k r kids rest = rw (add-one k) (sym (join-assoc (list_if _ _ _ _) _ _))

-- a turn: the tree that was read is entered and left
module _ {es : List Entry} {x y z u : Records} {p q a b o : Report} {k : ℕ} {r : Rec} (reads : ReadsNext y z p.level r) (n : Enters q a k r.level) (c : Leaves b o p.level) where
  pub cells-turn : Paced es (validate_cells x.bytes.now (path_of p) k) x y p q k → Walked z u a.level a b (validate_cell z.bytes.now (path_of a) (trees z a.level)) → Paced es (validate_cells x.bytes.now (path_of p) (k + 1)) x u p o (k + 1)
  cells-turn v d =
      let d' : Walked z u r.level a b (validate_cell z.bytes.now (path_of a) (trees z r.level)) = subst (λ (m : ℕ). Walked z u m a b (validate_cell z.bytes.now (path_of a) (trees z m))) n.level d in
      let i : u.next ≡ _ = behind-next reads d'.moved in
      let few = v.few in
      paced-turn v (passing-tree v.loop.passing reads d'.moved) (rw (reads-tree reads d'.moved) (cells-tree x.bytes.now (path_of p) k r _ _)) (paced-visit v n (rw (paced-path v n, loop-bytes v.loop reads) at d'.adds) c) (omega arith)

  pub rows-turn : {d : Report} {m : ℕ} (width : ℕ) → Paced es (validate_rows x.bytes.now (path_of p) width k) x y p q k → m ≡ count_trees (trees z r.level) → Adds a d (list_if (not (eqb m width)) Rules.row_width r.span (path_of a)) → Walked z u d.level d b (validate_cells z.bytes.now (path_of d) 0 (trees z d.level)) → Paced es (validate_rows x.bytes.now (path_of p) width (k + 1)) x u p o (k + 1)
  rows-turn {d} width v e l f =
      let g : Walked z u r.level d b (validate_cells z.bytes.now (path_of d) 0 (trees z r.level)) = subst (λ (m : ℕ). Walked z u m d b (validate_cells z.bytes.now (path_of d) 0 (trees z m))) (l.level ∙ n.level) f in
      let i : u.next ≡ _ = behind-next reads g.moved in
      let few = v.few in
      let row = adds-then (rw (e, paced-path v n) at l) (rw (l.path, paced-path v n, loop-bytes v.loop reads) at g.adds) in
      paced-turn v (passing-tree v.loop.passing reads g.moved) (rw (reads-tree reads g.moved) (rows-tree x.bytes.now (path_of p) width k r _ _)) (paced-visit v n row c) (omega arith)

-- ---- the rows of a table
pub rows_none : (bytes path : List ℕ) (width k : ℕ) → validate_rows bytes path width k no_tree ≡ []
unfolding validate_rows
rows_none bytes path width k = refl

-- ---- the table, by the rows that an iterator gives
abbrev width-of : List (Rec × Forest) → ℕ
width-of [] = 0
width-of (t ∷ ts) = count_trees t.1

width-roots : (f : Forest) → width-of (roots f) ≡ header_width f
unfolding roots header_width
width-roots no_tree = refl
width-roots (tree r kids rest) = refl

module _ (span : Span) (a : ℕ) {x y : Report} where
  pub table_empty : (bytes path : List ℕ) (f : Forest) → roots f ≡ [] → Adds x y (list_if true Rules.table_without_row span path) → Adds x y (validate_table bytes path span a f)
  unfolding validate_table
  table_empty bytes path f e l = let h : count_trees f ≡ 0 = sym (length-roots f) ∙ ap length e in rw h l

  pub table_done : {k i : Records} {m : ℕ} {r : Rec} {kids : Forest} {ts : List (Rec × Forest)} {z o : Report} → roots (trees k x.level) ≡ (r, kids) ∷ ts → m ≡ count_trees kids → Adds x y (list_if (eqb m 0) Rules.table_without_cell span (path_of x)) → Adds y z (list_if (not (eqb a m)) Rules.alignment_count span (path_of y)) → Walked k i z.level z o (validate_rows k.bytes.now (path_of z) m 0 (trees k z.level)) → Adds x o (validate_table k.bytes.now (path_of x) span a (trees k x.level))
  unfolding validate_table
  table_done {k} {m = m} {z = z} {o} e q l b f =
      let h : eqb (count_trees (trees k x.level)) 0 ≡ false = rw (sym (length-roots (trees k x.level)) ∙ ap length e) (sym (suc-some _)) in
      let w : header_width (trees k x.level) ≡ m = sym (width-roots (trees k x.level)) ∙ ap width-of e ∙ sym q in
      let two = adds-then l (rw l.path at b) in
      rw (h, w) (rw join-assoc at (adds-from (λ path level. validate_rows k.bytes.now path m 0 (trees k level)) two f.adds))

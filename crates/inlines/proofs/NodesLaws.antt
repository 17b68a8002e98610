-- The walk from inline to inline: one law for each way through its functions.
use mathlib.Core.Path.{◌≡◌, refl}
use mathlib.Core.Bool.{Bool, true, false, not}
use mathlib.Core.List.{List, []}
use Prim.Native.Nat.{ℕ, ◌+◌}
use borrow.Author.Tests.{not-true, not-false}
use Rattle.std.specs.Prelude.{if◌then◌else◌}
use Rattle.leaves.specs.Sheet.Kinds.{is_inline}
use Rattle.leaves.specs.Sheet.Forest.{Forest, no_tree, tree, size}
use Rattle.leaves.specs.Sheet.Trees.{trees, Moved, ReadsNext}
use Rattle.leaves.specs.Report.Entries.{Entry, ◌⊕◌}
use Rattle.leaves.specs.declared.sheet.records.Rec.{Rec}
use Rattle.leaves.specs.declared.sheet.trees.Records.{Records}
use Rattle.leaves.proofs.sheet.TreesLaws.{passing-tree, reads-tree}
use Rattle.leaves.proofs.report.ListedLaws.{adds-none, adds-then}
use Rattle.inlines.specs.Single.{validate_siblings}
use Rattle.inlines.specs.Nodes.{final_break, validate_inline, validate_node, validate_inline_nodes_after, validate_inline_nodes, validate_inlines}
use Rattle.inlines.specs.Walk.{Walked}
use Rattle.inlines.proofs.WalkLaws.{Loop, loop-turn, loop-path, loop-bytes}
use Rattle.leaves.specs.Report.Listed.{path_of, Adds}
use Rattle.leaves.specs.declared.report.entries.Report.{Report}

-- ---- one record: what its children list, by a call
abbrev pub under_of : List ℕ → List ℕ → Forest → List Entry
under_of bytes path kids = validate_inline_nodes bytes path kids

module _ {k j : Records} {x : Report} (r : Rec) (before : ℕ) {f : Bool} (g : f ≡ is_inline r.kind) where
  pub node-other : not f ≡ true → Moved k j (k.next + size (trees k r.level)) → Walked k j r.level x x (validate_node k.bytes.now (path_of x) before r (trees k r.level) (under_of k.bytes.now (path_of x) (trees k r.level)))
  unfolding validate_node
  node-other h m = let no-inline : is_inline r.kind ≡ false = not-true _ (rw g at h) in record { moved = m; adds = rw no-inline adds-none }

  pub node_done : {y z o : Report} → not f ≡ false → Adds x y (validate_siblings (path_of x) r.span before r.kind r.a) → Adds y z (validate_inline k.bytes.now (path_of y) r (trees k r.level)) → Walked k j r.level z o (under_of k.bytes.now (path_of z) (trees k r.level)) → Walked k j r.level x o (validate_node k.bytes.now (path_of x) before r (trees k r.level) (under_of k.bytes.now (path_of x) (trees k r.level)))
  unfolding validate_node
  node_done h a b d =
      let inline : is_inline r.kind ≡ true = not-false _ (rw g at h) in
      record { moved = d.moved; adds = rw inline (adds-then a (adds-then (rw a.path at b) (rw (b.path, a.path) at d.adds))) }

-- ---- from one to the next
pub nodes-none : (bytes path : List ℕ) (before : ℕ) → validate_inline_nodes_after bytes path before no_tree ≡ []
unfolding validate_inline_nodes_after
nodes-none bytes path before = refl

abbrev kind_after : ℕ → Rec → ℕ
kind_after before r = if is_inline r.kind then r.kind else before

nodes-tree : (bytes path : List ℕ) (before : ℕ) (r : Rec) (kids rest : Forest) → validate_inline_nodes_after bytes path before (tree r kids rest) ≡ validate_node bytes path before r kids (under_of bytes path kids) ⊕ validate_inline_nodes_after bytes path (kind_after before r) rest
unfolding validate_inline_nodes_after validate_inline_nodes
nodes-tree bytes path before r kids rest = refl

module _ (before : ℕ) (r : Rec) {f : Bool} (g : f ≡ is_inline r.kind) where
  pub kind-inline : f ≡ true → r.kind ≡ kind_after before r
  kind-inline h = rw (← g, h)

  pub kind-other : f ≡ false → before ≡ kind_after before r
  kind-other h = rw (← g, h)

pub nodes-turn : (before : ℕ) {es : List Entry} {level : ℕ} {x y z u : Records} {p q o : Report} {r : Rec} {b : ℕ} → Loop es (validate_inline_nodes_after x.bytes.now (path_of p) before) level x y p q → ReadsNext y z level r → Walked z u r.level q o (validate_node z.bytes.now (path_of q) before r (trees z r.level) (under_of z.bytes.now (path_of q) (trees z r.level))) → b ≡ kind_after before r → Loop es (validate_inline_nodes_after x.bytes.now (path_of p) b) level x u p o
nodes-turn before {x = x} {p = p} {r = r} v reads d l =
    rw l (loop-turn v (passing-tree v.passing reads d.moved) (rw (reads-tree reads d.moved) (nodes-tree x.bytes.now (path_of p) before r _ _)) (rw (loop-path v, loop-bytes v reads) at d.adds))

-- `validate_inlines`
pub inlines-done : {k j : Records} {level : ℕ} {x y z : Report} → Adds x y (final_break (path_of x) (trees k level)) → Walked k j level y z (validate_inline_nodes k.bytes.now (path_of y) (trees k level)) → Walked k j level x z (validate_inlines k.bytes.now (path_of x) (trees k level))
unfolding validate_inlines
inlines-done a d = record { moved = d.moved; adds = adds-then a (rw a.path at d.adds) }

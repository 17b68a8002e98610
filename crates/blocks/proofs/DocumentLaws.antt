-- The whole list: the trees of an accepted sheet are those that a walk from its first record goes through.
use mathlib.Core.Path.{◌≡◌, refl, ap, ◌∙◌}
use mathlib.Core.List.{List, []}
use Prim.Native.Nat.{ℕ, ◌<◌, ◌≤◌}
use native.Mathlib.Nat.{sub-zero}
use native.Mathlib.Omega.{arith}
use borrow.Author.Tests.{lt-ltb}
use lib.ListN.{length, take}
use Rattle.leaves.specs.Refusal.Limits.{most_level}
use Rattle.leaves.specs.Sheet.Records.{records_of}
use Rattle.leaves.specs.Sheet.Forest.{Forest, no_tree, tree, deeper, forest_of, under}
use Rattle.leaves.specs.Refusal.Places.{after_child}
use Rattle.leaves.specs.declared.refusal.places.Open.{Open}
use Rattle.leaves.specs.Refusal.Formed.{Formed, Sound}
use Rattle.leaves.specs.Sheet.Trees.{trees, OfSheet}
use Rattle.leaves.specs.Report.Entries.{Entry, WritesEntries, empty_tally}
use Rattle.leaves.specs.declared.report.entries.Tally.{Tally}
use Rattle.leaves.specs.Report.Listed.{path_of}
use Rattle.leaves.specs.declared.sheet.trees.Records.{Records}
use Rattle.leaves.specs.declared.report.entries.Report.{Report}
use Rattle.inlines.specs.Walk.{Walked}
use Rattle.inlines.proofs.WalkLaws.{WalkStart, start_of}
use Rattle.blocks.specs.Before.{no_block}
use Rattle.blocks.specs.Walk.{validate_blocks, validate_document}

formed-deeper : (bytes : List ℕ) (l : ℕ) (o : Open) (f : Forest) → Formed bytes l o f → deeper l f ≡ f
unfolding Formed deeper
formed-deeper bytes l o no_tree g = refl
formed-deeper bytes l o (tree r kids rest) g =
    let h : l < r.level = rw g.0.level (omega arith) in
    rw (lt-ltb l r.level h) (ap (tree r kids) (formed-deeper bytes l (after_child o r.kind) rest g.2))

whole-sheet : (w bytes : List ℕ) → Sound w bytes → under w (records_of w) 0 0 ≡ forest_of w
unfolding forest_of
whole-sheet w bytes s = rw sub-zero (formed-deeper bytes 0 _ (forest_of w) s.tree)

document-trees : {w bytes : List ℕ} → Sound w bytes → {k : Records} → OfSheet w bytes k → trees k 0 ≡ forest_of w
document-trees {w} {bytes} s a = rw (a.sheet, a.n, a.next) (whole-sheet w bytes s)

document-is : (w : List ℕ) {bytes b path : List ℕ} {f : Forest} → b ≡ bytes → path ≡ [] → f ≡ forest_of w → validate_blocks b path 0 no_block f ≡ validate_document w bytes
unfolding validate_document
document-is w b p f = rw (b, p, f)

lists-as : {s s' t : Tally} {x x' y y' : List ℕ} {es fs : List Entry} → s ≡ s' → x ≡ x' → y' ≡ y → es ≡ fs → WritesEntries s t x y es → WritesEntries s' t x' y' fs
lists-as s x y e l = rw (y, ← e, ← s, ← x) l

-- the walk of all records of the sheet, by a report of no entries that stands before the first record
pub document-done : (w : List ℕ) {bytes : List ℕ} → Sound w bytes → {k j : Records} {x y : Report} → OfSheet w bytes k → {before after : List ℕ} → x.words.now ≡ before → x.tally ≡ empty_tally → (x.depth ≡ 0) × (x.level ≡ 0) → Walked k j x.level x y (validate_blocks k.bytes.now (path_of x) 0 no_block (trees k x.level)) → after ≡ y.words.now → WritesEntries empty_tally y.tally before after (validate_document w bytes)
document-done w s {k} a v t top d f =
    lists-as t v f (document-is w a.bytes (rw top.0) (ap (trees k) top.1 ∙ document-trees s a)) d.adds.lists

-- what a walk that makes paths starts with: p is an array of `most_level` words, whose first `len` words are the path of
-- the record under which it walks; that record has the level `level`
pub record WalkBegin (w p : List ℕ) (n from len level : ℕ) : Type 0 where
  pub start : WalkStart w (take len p) n from
  pub words : length p ≡ most_level
  pub short : len ≤ level
  pub fits : len ≤ most_level

-- what acceptance gives the walk of the whole sheet, which begins at record 0 with a path of no words
pub document-begin : {w bytes p : List ℕ} {n : ℕ} → Sound w bytes → n ≡ records_of w → length p ≡ most_level → WalkBegin w p n 0 0 0
document-begin s e l = record { start = start_of s e (omega arith) (omega arith); words = l; short = omega arith; fits = omega arith }

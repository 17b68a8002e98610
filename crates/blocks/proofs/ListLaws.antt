-- A list, up to its items: one law for each way through a function of `list`.
use mathlib.Core.Path.{◌≡◌, refl, sym, ap, ◌∙◌}
use mathlib.Core.Bool.{Bool, true, false, not, ◌&&◌}
use mathlib.Core.List.{List, [], ◌∷◌}
use Prim.Native.Nat.{ℕ, suc}
use borrow.Author.Tests.{ne_eqb}
use lib.Dec.{eqb, ltb}
use lib.ListN.{length}
use Rattle.std.specs.Prelude.{if◌then◌else◌}
use Rattle.leaves.specs.Sheet.Kinds.{blank_line}
use Rattle.leaves.specs.declared.sheet.records.Rec.{Rec}
use Rattle.leaves.specs.declared.sheet.records.Span.{Span}
use Rattle.leaves.proofs.report.EntryLaws.{join-none}
use Rattle.leaves.specs.Report.Rules
use Rattle.blocks.specs.List.{count_full, holds_one_block, validate_list}
use Rattle.leaves.specs.Sheet.Forest.{Forest, no_tree, tree, count_trees}
use Rattle.leaves.specs.Sheet.Roots.{roots}
use Rattle.leaves.specs.Report.Entries.{list_if}
use Rattle.leaves.specs.Report.Listed.{path_of, Adds}
use Rattle.leaves.specs.declared.report.entries.Report.{Report}
use Rattle.leaves.proofs.report.ListedLaws.{adds-then}
use Rattle.leaves.proofs.sheet.RootLaws.{length-roots}

-- ---- how many blocks
pub full-tree : (r : Rec) (kids rest : Forest) → count_full (tree r kids rest) ≡ (if not (eqb r.kind blank_line) then suc (count_full rest) else count_full rest)
unfolding count_full
full-tree r kids rest = go (eqb r.kind blank_line)
  where
    go : (b : Bool) → (if b then count_full rest else suc (count_full rest)) ≡ (if not b then suc (count_full rest) else count_full rest)
    go true = refl
    go false = refl

-- ---- one item of one block, by the items that an iterator gives
abbrev holds-of : List (Rec × Forest) → Bool
holds-of [] = false
holds-of (t ∷ ts) = eqb (length ts) 0 && ltb (count_full t.1) 2

holds-roots : (f : Forest) → holds-of (roots f) ≡ holds_one_block f
unfolding roots holds_one_block
holds-roots no_tree = refl
holds-roots (tree r kids rest) = rw (length-roots rest) refl

module _ (f : Forest) where
  pub holds-none : roots f ≡ [] → false ≡ holds_one_block f
  holds-none e = sym (ap holds-of e) ∙ holds-roots f

  module _ {r : Rec} {kids : Forest} {ts : List (Rec × Forest)} {b : Bool} (e : roots f ≡ (r, kids) ∷ ts) (q : b ≡ eqb (length ts) 0) where
    holds-first : (b && ltb (count_full kids) 2) ≡ holds_one_block f
    holds-first = rw q (sym (ap holds-of e) ∙ holds-roots f)

    pub holds-one : {k : ℕ} → b ≡ true → k ≡ count_full kids → ltb k 2 ≡ holds_one_block f
    holds-one t k = rw k (rw t at holds-first)

    pub holds-more : b ≡ false → b ≡ holds_one_block f
    holds-more t = rw t (rw t at holds-first)

-- ---- the list
module _ (span : Span) (tight : ℕ) (kids : Forest) {f : Bool} {x y : Report} (e : f ≡ eqb (count_trees kids) 0) (l : Adds x y (list_if f Rules.empty_list span (path_of x))) where
  pub list-tight : tight ≡ 1 → Adds x y (validate_list (path_of x) span tight kids)
  unfolding validate_list list_if
  list-tight h = rw (h, join-none) (rw e at l)

  pub list-loose : {g : Bool} {z : Report} → (tight ≡ 1 → ⊥) → g ≡ holds_one_block kids → Adds y z (list_if g Rules.loose_list span (path_of y)) → Adds x z (validate_list (path_of x) span tight kids)
  unfolding validate_list
  list-loose h g k = rw (ne_eqb tight 1 h) (adds-then (rw e at l) (rw (g, l.path) at k))

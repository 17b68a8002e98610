-- The loop over the links of trees, at any depth but below a link.
use mathlib.Core.Path.{◌≡◌, refl, sym, ◌∙◌}
use mathlib.Core.Bool.{Bool, true, false}
use mathlib.Core.List.{List, []}
use Prim.Native.Nat.{ℕ, ◌+◌}
use native.Mathlib.Nat.{add-zero}
use Rattle.std.specs.Prelude.{if◌then◌else◌}
use Rattle.leaves.specs.Sheet.Forest.{Forest, no_tree, tree, size}
use Rattle.leaves.specs.Sheet.Trees.{trees, Moved, ReadsNext}
use Rattle.leaves.specs.Sheet.Classes.{is_link}
use Rattle.leaves.specs.Report.Entries.{Entry, list_if, ◌⊕◌}
use Rattle.leaves.specs.Report.Rules
use Rattle.leaves.specs.declared.sheet.records.Rec.{Rec}
use Rattle.leaves.specs.declared.sheet.records.Span.{Span}
use Rattle.leaves.specs.declared.sheet.trees.Records.{Records}
use Rattle.leaves.proofs.report.EntryLaws.{none-join}
use Rattle.leaves.proofs.sheet.TreesLaws.{Passing, passing-same, passing-step, passing-tree, reads-tree, trees-moved, moved-at}
use Rattle.inlines.proofs.WalkLaws.{Loop, loop-turn, loop-path, reads-on}
use Rattle.inlines.specs.Link.{validate_link_text}
use Rattle.leaves.specs.Report.Listed.{path_of, Adds}
use Rattle.leaves.specs.declared.report.entries.Report.{Report}

pub links-none : (path : List ℕ) → validate_link_text path no_tree ≡ []
unfolding validate_link_text
links-none path = refl

abbrev links_of : List ℕ → Rec → Forest → List Entry
links_of path r kids = if is_link r.kind then list_if true Rules.link_in_link r.span path else validate_link_text path kids

links-tree : (path : List ℕ) (r : Rec) (kids rest : Forest) → validate_link_text path (tree r kids rest) ≡ links_of path r kids ⊕ validate_link_text path rest
unfolding validate_link_text
links-tree path r kids rest = refl

none-listed : (span : Span) (path : List ℕ) (es : List Entry) → list_if false Rules.link_in_link span path ⊕ es ≡ es
unfolding list_if
none-listed span path es = none-join es

-- where the loop goes on: behind all that a link holds, else at the next record
abbrev Past : Records → Records → ℕ → Bool → Type 0
Past z u level found = Moved z u (z.next + (if found then size (trees z level) else 0))

module _ (path : List ℕ) {y z u : Records} {level : ℕ} {r : Rec} (reads : ReadsNext y z level r) where
  links-step : (t : Bool) → is_link r.kind ≡ t → Past z u r.level t → validate_link_text path (trees y level) ≡ list_if t Rules.link_in_link r.span path ⊕ validate_link_text path (trees u level)
  links-step true e m = rw (reads-tree reads m) (rw links-tree (rw e))
  links-step false e m =
      let n : Moved z u z.next = moved-at m (add-zero z.next) in
      let s : trees u level ≡ trees z level = trees-moved level n in
      reads-on (validate_link_text path) (links_of path) (links-none path) (links-tree path) reads (rw e) ∙ sym (none-listed r.span path _ ∙ rw s)

  links-past : {x : Records} → Passing x y level → (t : Bool) → Past z u r.level t → Passing x u level
  links-past v true m = passing-tree v reads m
  links-past v false m = passing-same (passing-step v reads) (moved-at m (add-zero z.next))

-- a turn, by what the calls answered of the record and of where to go on
pub links-turn : {es : List Entry} {level : ℕ} {x y z u : Records} {p q o : Report} {r : Rec} {f : Bool} → Loop es (validate_link_text (path_of p)) level x y p q → ReadsNext y z level r → f ≡ is_link r.kind → Adds q o (list_if f Rules.link_in_link r.span (path_of q)) → Past z u r.level f → Loop es (validate_link_text (path_of p)) level x u p o
links-turn {p = p} {f = f} v reads g k m = loop-turn v (links-past (path_of p) reads v.passing f m) (links-step (path_of p) reads f (sym g) m) (rw (loop-path v) at k)

-- The loop over the attributes of a directive.
use mathlib.Core.Path.{◌≡◌, refl}
use mathlib.Core.Bool.{Bool}
use mathlib.Core.List.{List, []}
use Prim.Native.Nat.{ℕ, ◌+◌}
use Rattle.leaves.specs.Sheet.Forest.{Forest, no_tree, tree, size}
use Rattle.leaves.specs.Sheet.Trees.{trees, Moved, ReadsNext}
use Rattle.leaves.specs.Report.Entries.{Entry, list_if, ◌⊕◌}
use Rattle.leaves.specs.Report.Rules
use Rattle.leaves.specs.Report.Listed.{path_of, Adds}
use Rattle.leaves.specs.Sheet.Records.{no_span}
use Rattle.leaves.specs.declared.sheet.records.Rec.{Rec}
use Rattle.leaves.specs.declared.sheet.records.Span.{Span}
use Rattle.leaves.specs.declared.sheet.trees.Records.{Records}
use Rattle.leaves.specs.declared.report.entries.Report.{Report}
use Rattle.leaves.proofs.sheet.TreesLaws.{passing-tree, reads-tree}
use Rattle.inlines.specs.Values.{is_bad_attribute}
use Rattle.inlines.specs.Attribute.{validate_directive_attributes}
use Rattle.inlines.proofs.WalkLaws.{Loop, loop-turn, loop-path, loop-bytes}

pub attributes-none : (bytes path : List ℕ) → validate_directive_attributes bytes path no_tree ≡ []
unfolding validate_directive_attributes
attributes-none bytes path = refl

abbrev attribute_of : List ℕ → List ℕ → Rec → List Entry
attribute_of bytes path r = list_if (is_bad_attribute bytes r) Rules.attribute_name no_span path

attributes-tree : (bytes path : List ℕ) (r : Rec) (kids rest : Forest) → validate_directive_attributes bytes path (tree r kids rest) ≡ attribute_of bytes path r ⊕ validate_directive_attributes bytes path rest
unfolding validate_directive_attributes
attributes-tree bytes path r kids rest = refl

-- a turn goes on behind the children of the record that was read
pub attributes-turn : {es : List Entry} {level : ℕ} {x y z u : Records} {p q o : Report} {r : Rec} {f : Bool} {n : Span} → Loop es (validate_directive_attributes x.bytes.now (path_of p)) level x y p q → ReadsNext y z level r → f ≡ is_bad_attribute z.bytes.now r → n ≡ no_span → Adds q o (list_if f Rules.attribute_name n (path_of q)) → Moved z u (z.next + size (trees z r.level)) → Loop es (validate_directive_attributes x.bytes.now (path_of p)) level x u p o
attributes-turn {x = x} {p = p} v reads g e k m =
    loop-turn v (passing-tree v.passing reads m) (rw (reads-tree reads m) (attributes-tree x.bytes.now (path_of p) _ _ _)) (rw (g, e, loop-path v, loop-bytes v reads) at k)

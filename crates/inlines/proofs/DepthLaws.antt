-- Loops over every record of the trees deeper than a level.
use mathlib.Core.Path.{◌≡◌, refl, sym, ap, ◌∙◌}
use mathlib.Core.Bool.{Bool}
use mathlib.Core.List.{List, [], ◌++◌}
use Prim.Native.Nat.{ℕ, ◌+◌, ◌<◌}
use Rattle.leaves.specs.Sheet.Records.{record_at}
use Rattle.std.proofs.lemmas.Grind.{flat_map-append}
use Rattle.leaves.specs.Sheet.Forest.{Forest, no_tree, tree, under, records_in}
use Rattle.leaves.specs.Sheet.Trees.{trees, ReadsNext}
use Rattle.leaves.specs.Report.Entries.{Entry, list_if, ◌⊕◌}
use Rattle.leaves.specs.declared.sheet.records.Rec.{Rec}
use Rattle.leaves.specs.declared.sheet.trees.Records.{Records}
use Rattle.leaves.proofs.report.EntryLaws.{join-assoc}
use Rattle.leaves.proofs.sheet.TreesLaws.{passing-step, reads-deep, trees-moved}
use Rattle.inlines.proofs.WalkLaws.{Loop, loop-turn, loop-path, spine-kids, spine-tree}
use Rattle.inlines.specs.Depth.{each_record}
use Rattle.leaves.specs.Report.Listed.{path_of, Adds}
use Rattle.leaves.specs.declared.report.entries.Report.{Report}

pub each_none : (entries : Rec → List Entry) → each_record entries no_tree ≡ []
unfolding each_record records_in
each_none entries = refl

pub each-tree : (entries : Rec → List Entry) (r : Rec) (kids rest : Forest) → each_record entries (tree r kids rest) ≡ (entries r ⊕ (each_record entries kids ⊕ each_record entries rest))
unfolding each_record records_in ◌⊕◌
each-tree entries r kids rest = ap (λ es. entries r ++ es) (flat_map-append entries (records_in kids) (records_in rest))

of-tree : (entries : Rec → List Entry) (r : Rec) (kids rest : Forest) → each_record entries (tree r kids rest) ≡ (entries r ⊕ each_record entries kids) ⊕ each_record entries rest
of-tree entries r kids rest = each-tree entries r kids rest ∙ sym (join-assoc (entries r) (each_record entries kids) (each_record entries rest))

each_step : (entries : Rec → List Entry) (w : List ℕ) (n i l : ℕ) → i < n → l < (record_at w i).level → each_record entries (under w n i l) ≡ entries (record_at w i) ⊕ each_record entries (under w n (i + 1) l)
each_step entries w n i l b d =
    spine-tree (each_record entries) (λ r kids. entries r ⊕ each_record entries kids) (each_none entries) (of-tree entries) w n i l b d
    ∙ join-assoc (entries (record_at w i)) _ _
    ∙ ap (λ es. entries (record_at w i) ⊕ es) (sym (spine-kids (each_record entries) (λ r kids. entries r ⊕ each_record entries kids) (each_none entries) (of-tree entries) w n i l b d))

-- a record is read, and the records behind it are those that are left
each-read : (entries : Rec → List Entry) {y z : Records} {level : ℕ} {r : Rec} → ReadsNext y z level r → each_record entries (trees y level) ≡ entries r ⊕ each_record entries (trees z level)
each-read entries {y} {z} {level} {r} reads =
    let e = trees-moved level reads.moved in
    let i = reads.is in
    rw (e, i) (each_step entries y.sheet.now y.n y.next level reads.inside (reads-deep reads))

-- a turn: one record was tested, and listed where the test holds
abbrev pub fault_in : (Rec → Bool) → ℕ → List ℕ → Rec → List Entry
fault_in test rule path r = list_if (test r) rule r.span path

pub each_turn : (test : Rec → Bool) (rule : ℕ) {es : List Entry} {level : ℕ} {x y z : Records} {p q o : Report} {r : Rec} {f : Bool} → Loop es (each_record (fault_in test rule (path_of p))) level x y p q → ReadsNext y z level r → f ≡ test r → Adds q o (list_if f rule r.span (path_of q)) → Loop es (each_record (fault_in test rule (path_of p))) level x z p o
each_turn test rule {p = p} v reads g k =
    loop-turn v (passing-step v.passing reads) (each-read (fault_in test rule (path_of p)) reads) (rw (g, loop-path v) at k)

-- What an item reports, before its blocks: one law for each way through a function of `item`.
use mathlib.Core.Bool.{Bool, true, false, not, ◌&&◌, and-true, and-false}
use mathlib.Core.List.{List, [], ◌∷◌, ◌++◌}
use Prim.Native.Nat.{ℕ, ◌+◌, ◌<◌, ◌≤◌}
use native.Mathlib.Omega.{arith}
use native.Mathlib.Numerals.{add-one}
use borrow.Author.Tests.{ltb-true, ltb-false, ne_eqb}
use lib.Dec.{eqb, ltb}
use Rattle.std.specs.Prelude.{if◌then◌else◌}
use Rattle.leaves.specs.Sheet.Kinds.{paragraph, definition, blank_line}
use Rattle.leaves.specs.declared.sheet.records.Rec.{Rec}
use Rattle.leaves.specs.declared.sheet.records.Span.{Span}
use Rattle.leaves.specs.Report.Rules
use Rattle.blocks.specs.Item.{opens_with_paragraph, validate_blank_line, validate_item_blank_lines, validate_task_item}
use Rattle.leaves.specs.Sheet.Records.{record_at}
use Rattle.leaves.proofs.sheet.TreeLaws.{count-end, count-in, count-out, suc-some}
use Rattle.leaves.proofs.sheet.ForestLaws.{behind_kids}
use Rattle.leaves.proofs.sheet.ForestLaws.{size-end, size-out}
use Rattle.blocks.specs.WalkAt.{is_last}
use mathlib.Core.Path.{◌≡◌, refl, sym, ◌∙◌}
use Rattle.leaves.specs.Sheet.Forest.{Forest, no_tree, tree, under, count_trees, size}
use Rattle.leaves.specs.Sheet.Trees.{trees, Moved, ReadsNext}
use Rattle.leaves.specs.Report.Entries.{Entry, list_if, ◌⊕◌}
use Rattle.leaves.specs.Report.Listed.{path_of, Adds, Enters, Leaves}
use Rattle.leaves.specs.declared.sheet.trees.Records.{Records}
use Rattle.leaves.specs.declared.report.entries.Report.{Report}
use Rattle.leaves.proofs.report.ListedLaws.{adds-none}
use Rattle.leaves.proofs.sheet.TreesLaws.{Passing, passing-tree, reads-tree, behind-next, trees-moved}
use Rattle.inlines.proofs.PathLaws.{Paced, paced-path, paced-visit, paced-turn}

-- ---- its blank lines

-- nothing deeper than `outer` stands at record j: the item has ended, and nothing deeper than `outer` stands behind it
last-at : (w : List ℕ) (n level outer j : ℕ) → outer ≤ level → eqb (count_trees (under w n j outer)) 0 ≡ (eqb (count_trees (under w n (j + size (under w n j level)) outer)) 0 && eqb (count_trees (under w n j level)) 0)
last-at w n level outer j b = go (ltb j n) (ltb level (record_at w j).level) refl refl
  where
    go : (s t : Bool) → ltb j n ≡ s → ltb level (record_at w j).level ≡ t → eqb (count_trees (under w n j outer)) 0 ≡ (eqb (count_trees (under w n (j + size (under w n j level)) outer)) 0 && eqb (count_trees (under w n j level)) 0)
    go false t a d =
        let z : j + size (under w n j level) ≡ j = omega (arith, size-end w n j level (ltb-false _ _ a)) in
        rw (z, count-end w n j level (ltb-false _ _ a)) (sym (and-true (eqb (count_trees (under w n j outer)) 0)))
    go true false a d =
        let z : j + size (under w n j level) ≡ j = omega (arith, size-out w n j level (ltb-true _ _ a) (ltb-false _ _ d)) in
        rw (z, count-out w n j level (ltb-true _ _ a) (ltb-false _ _ d)) (sym (and-true (eqb (count_trees (under w n j outer)) 0)))
    go true true a d =
        let in_item : level < (record_at w j).level = ltb-true _ _ d in
        let in_list : outer < (record_at w j).level = omega arith in
        rw (count-in w n j outer (ltb-true _ _ a) in_list, count-in w n j level (ltb-true _ _ a) in_item, ← suc-some (count_trees (under w n (behind_kids w n j) outer)), ← suc-some (count_trees (under w n (behind_kids w n j) level))) (sym (and-false (eqb (count_trees (under w n (j + size (under w n j level)) outer)) 0)))

-- a walk stands at y: a block is the last one of the list's last item
last-is : {x y : Records} {level outer : ℕ} → Passing x y level → outer ≤ level → eqb (count_trees (trees y outer)) 0 ≡ (is_last x level outer && eqb (count_trees (trees y level)) 0)
last-is {x} {y} {level} {outer} v b =
    let s = trees-moved outer v.moved in
    let t = trees-moved level v.moved in
    let g : y.next + size (under x.sheet.now x.n y.next level) ≡ x.next + size (trees x level) = rw t at v.gone in
    rw (s, t) (last-at x.sheet.now x.n level outer y.next b ∙ rw g)

pub lines_none : (path : List ℕ) (tight last : Bool) (k : ℕ) → validate_item_blank_lines path tight last k no_tree ≡ []
unfolding validate_item_blank_lines
lines_none path tight last k = refl

lines-tree : (path : List ℕ) (tight last : Bool) (k : ℕ) (r : Rec) (kids rest : Forest) → validate_item_blank_lines path tight last k (tree r kids rest) ≡ validate_blank_line (path ++ k ∷ []) r.span (eqb r.kind blank_line) tight (eqb k 0) (last && eqb (count_trees rest) 0) ⊕ validate_item_blank_lines path tight last (k + 1) rest
unfolding validate_item_blank_lines
lines-tree path tight last k r kids rest = rw (add-one k)

pub lines-turn : {es : List Entry} {x y z u : Records} {p q : Report} {k : ℕ} {r : Rec} {f : Bool} (tight : Bool) {outer : ℕ} → Paced es (validate_item_blank_lines (path_of p) tight (is_last x p.level outer) k) x y p q k → outer ≤ p.level → ReadsNext y z p.level r → Moved z u (z.next + size (trees z r.level)) → f ≡ eqb (count_trees (trees u outer)) 0 → {a b o : Report} → Enters q a k r.level → Adds a b (validate_blank_line (path_of a) r.span (eqb r.kind blank_line) tight (eqb k 0) f) → Leaves b o p.level → Paced es (validate_item_blank_lines (path_of p) tight (is_last x p.level outer) (k + 1)) x u p o (k + 1)
lines-turn {u = u} {p = p} {k = k} {r} tight v l reads behind g n d c =
    let s = passing-tree v.loop.passing reads behind in
    let i : u.next ≡ _ = behind-next reads behind in
    let few = v.few in
    paced-turn v s (rw (reads-tree reads behind) (lines-tree (path_of p) tight _ k r _ _)) (paced-visit v n (rw (paced-path v n, g, last-is s l) at d) c) (omega arith)

-- ---- its paragraph
pub opens-tree : (r : Rec) (kids rest : Forest) → opens_with_paragraph (tree r kids rest) ≡ (if not (eqb r.kind definition) then eqb r.kind paragraph && not (eqb (count_trees kids) 0) else opens_with_paragraph rest)
unfolding opens_with_paragraph
opens-tree r kids rest = go (eqb r.kind definition)
  where
    go : (b : Bool) → (if b then opens_with_paragraph rest else eqb r.kind paragraph && not (eqb (count_trees kids) 0)) ≡ (if not b then eqb r.kind paragraph && not (eqb (count_trees kids) 0) else opens_with_paragraph rest)
    go true = refl
    go false = refl

module _ (path : List ℕ) (span : Span) (checked : ℕ) (kids : Forest) {x : Report} where
  pub task-none : checked ≡ 0 → Adds x x (validate_task_item path span checked kids)
  unfolding validate_task_item list_if
  task-none e = rw e adds-none

  pub task-law : {f : Bool} {y : Report} → (checked ≡ 0 → ⊥) → f ≡ opens_with_paragraph kids → Adds x y (list_if (not f) Rules.task_item span path) → Adds x y (validate_task_item path span checked kids)
  unfolding validate_task_item
  task-law c e l = rw (ne_eqb checked 0 c) (rw e at l)

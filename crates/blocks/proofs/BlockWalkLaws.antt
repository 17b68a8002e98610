-- The walk from block to block: one law for each way through its functions.
use mathlib.Core.Path.{◌≡◌, refl, sym, subst, ◌∙◌}
use Rattle.std.specs.Prelude.{Option}
use mathlib.Core.Bool.{Bool, true, false, not}
use mathlib.Core.List.{List, [], ◌∷◌, ◌++◌}
use Prim.Native.Nat.{ℕ, ◌+◌}
use native.Mathlib.Omega.{arith}
use native.Mathlib.Numerals.{add-one}
use borrow.Author.Tests.{not-true, not-false, eq-eqb, ne_eqb}
use lib.Dec.{eqb}
use Rattle.leaves.specs.Sheet.Kinds.{is_block, list}
use Rattle.leaves.specs.Sheet.Forest.{Forest, no_tree, tree, count_trees, size}
use Rattle.leaves.specs.Sheet.Trees.{trees, Moved, ReadsNext}
use Rattle.leaves.specs.declared.sheet.records.Rec.{Rec}
use Rattle.leaves.specs.declared.sheet.trees.Records.{Records}
use Rattle.leaves.specs.Report.Entries.{Entry, ◌⊕◌}
use Rattle.leaves.specs.Report.Listed.{path_of, Adds, Enters, Leaves}
use Rattle.leaves.specs.declared.report.entries.Report.{Report}
use Rattle.leaves.proofs.report.EntryLaws.{join-assoc, join-none, none-join}
use Rattle.leaves.proofs.report.ListedLaws.{adds-none, adds-from}
use Rattle.leaves.proofs.sheet.TreesLaws.{passing-tree, reads-tree, behind-next, trees-moved}
use Rattle.inlines.specs.Walk.{Walked}
use Rattle.inlines.proofs.WalkLaws.{loop-bytes}
use Rattle.inlines.proofs.PathLaws.{Paced, paced-path, paced-visit, paced-turn}
use Rattle.blocks.specs.declared.before.Before.{Before}
use Rattle.blocks.specs.Before.{no_block, before_next, validate_taken_block}
use Rattle.blocks.specs.Item.{validate_item_blank_lines, validate_task_item}
use Rattle.blocks.specs.Number.{item_number, validate_item_number}
use Rattle.blocks.specs.Block.{validate_own}
use Rattle.blocks.specs.Holds.{holds_blocks}
use Rattle.blocks.specs.Walk.{validate_block, validate_blocks, validate_item, validate_list_items}
use Rattle.blocks.specs.WalkAt.{is_last}

-- ---- one block
abbrev items_under : List ℕ → List ℕ → Rec → Forest → List Entry
items_under bytes path r kids = validate_list_items bytes path 0 r.a r.c kids

abbrev blocks_under : List ℕ → List ℕ → Forest → List Entry
blocks_under bytes path kids = validate_blocks bytes path 0 no_block kids

abbrev block_under : List ℕ → List ℕ → Rec → Forest → List Entry
block_under bytes path r kids = validate_block bytes path r kids (items_under bytes path r kids) (blocks_under bytes path kids)

module _ (bytes path : List ℕ) (r : Rec) (kids : Forest) where
  at-list : eqb r.kind list ≡ true → block_under bytes path r kids ≡ validate_own bytes path r kids ⊕ items_under bytes path r kids
  unfolding validate_block
  at-list l = rw l

  at-blocks : eqb r.kind list ≡ false → holds_blocks r.kind r.a ≡ true → block_under bytes path r kids ≡ validate_own bytes path r kids ⊕ blocks_under bytes path kids
  unfolding validate_block
  at-blocks l h = rw (l, h)

  at_leaf : eqb r.kind list ≡ false → holds_blocks r.kind r.a ≡ false → block_under bytes path r kids ≡ validate_own bytes path r kids
  unfolding validate_block
  at_leaf l h = rw (l, h, join-none (validate_own bytes path r kids))

-- a block is done once its own rules and its children are: they are listed where the report stood, x, at its level
module _ (k : Records) {x z : Report} (r : Rec) (own : Adds x z (validate_own k.bytes.now (path_of x) r (trees k x.level))) where
  -- what is listed of the children, behind that
  under-law : {j : Records} {o : Report} (es : List ℕ → Forest → List Entry) → block_under k.bytes.now (path_of x) r (trees k x.level) ≡ validate_own k.bytes.now (path_of x) r (trees k x.level) ⊕ es (path_of x) (trees k x.level) → Walked k j z.level z o (es (path_of z) (trees k z.level)) → Walked k j x.level x o (block_under k.bytes.now (path_of x) r (trees k x.level))
  under-law {j} {o} es e d =
      let n : Moved k j (k.next + size (trees k x.level)) = subst (λ (m : ℕ). Moved k j (k.next + size (trees k m))) own.level d.moved in
      record { moved = n; adds = rw e (adds-from (λ path level. es path (trees k level)) own d.adds) }

  pub block-items : {j : Records} {o : Report} → r.kind ≡ list → Walked k j z.level z o (validate_list_items k.bytes.now (path_of z) 0 r.a r.c (trees k z.level)) → Walked k j x.level x o (block_under k.bytes.now (path_of x) r (trees k x.level))
  block-items q d = under-law (λ path kids. items_under k.bytes.now path r kids) (at-list k.bytes.now (path_of x) r (trees k x.level) (eq-eqb _ _ q)) d

  module _ {c : Bool} (q : r.kind ≡ list → ⊥) (l : c ≡ holds_blocks r.kind r.a) where
    pub block-blocks : {j : Records} {o : Report} → c ≡ true → Walked k j z.level z o (validate_blocks k.bytes.now (path_of z) 0 no_block (trees k z.level)) → Walked k j x.level x o (block_under k.bytes.now (path_of x) r (trees k x.level))
    block-blocks m d = under-law (λ path kids. blocks_under k.bytes.now path kids) (at-blocks k.bytes.now (path_of x) r (trees k x.level) (ne_eqb _ _ q) (rw l at m)) d

    pub block-leaf : {j : Records} → c ≡ false → Moved k j (k.next + size (trees k z.level)) → Walked k j x.level x z (block_under k.bytes.now (path_of x) r (trees k x.level))
    block-leaf {j} m d =
        let n : Moved k j (k.next + size (trees k x.level)) = subst (λ (m : ℕ). Moved k j (k.next + size (trees k m))) own.level d in
        record { moved = n; adds = rw (at_leaf k.bytes.now (path_of x) r (trees k x.level) (ne_eqb _ _ q) (rw l at m)) own }

-- ---- one item
pub item-done : (ordered tight outer : ℕ) (r : Rec) {k j : Records} {m : Option ℕ} {x y z a b : Report} → m ≡ item_number r.b r.c → Adds x y (validate_item_number (path_of x) r.span ordered m) → Adds y z (validate_item_blank_lines (path_of y) (eqb tight 1) (is_last k y.level outer) 0 (trees k y.level)) → Adds z a (validate_task_item (path_of z) r.span r.a (trees k z.level)) → Walked k j a.level a b (validate_blocks k.bytes.now (path_of a) 0 no_block (trees k a.level)) → Walked k j x.level x b (validate_item (path_of x) ordered tight (is_last k x.level outer) r (trees k x.level) (validate_blocks k.bytes.now (path_of x) 0 no_block (trees k x.level)))
unfolding validate_item
item-done ordered tight outer r {k} {j} {x = x} {a = a} g l m t d =
    let one = adds-from (λ path level. validate_item_blank_lines path (eqb tight 1) (is_last k level outer) 0 (trees k level)) (rw g at l) m in
    let two = adds-from (λ path level. validate_task_item path r.span r.a (trees k level)) one t in
    let all = adds-from (λ path level. blocks_under k.bytes.now path (trees k level)) two d.adds in
    let n : Moved k j (k.next + size (trees k x.level)) = subst (λ (m : ℕ). Moved k j (k.next + size (trees k m))) two.level d.moved in
    record { moved = n; adds = rw (join-assoc, join-assoc) at all }

-- ---- from one to the next
pub blocks-none : (bytes path : List ℕ) (k : ℕ) (before : Before) → validate_blocks bytes path k before no_tree ≡ []
unfolding validate_blocks
blocks-none bytes path k before = refl

pub items-none : (bytes path : List ℕ) (k ordered tight : ℕ) → validate_list_items bytes path k ordered tight no_tree ≡ []
unfolding validate_list_items
items-none bytes path k ordered tight = refl

blocks-tree : (bytes path : List ℕ) (k : ℕ) (before : Before) (r : Rec) (kids rest : Forest) → is_block r.kind ≡ true → validate_blocks bytes path k before (tree r kids rest) ≡ (validate_taken_block (path ++ k ∷ []) r.span before r.kind r.a r.b ⊕ block_under bytes (path ++ k ∷ []) r kids) ⊕ validate_blocks bytes path (k + 1) (before_next before r.kind r.a r.b) rest
unfolding validate_blocks
blocks-tree bytes path k before r kids rest e = rw (e, add-one k) (sym (join-assoc (validate_taken_block (path ++ k ∷ []) r.span before r.kind r.a r.b) _ _))

-- a tree that is not a block is passed over
blocks-other : (bytes path : List ℕ) (k : ℕ) (before : Before) (r : Rec) (kids rest : Forest) → is_block r.kind ≡ false → validate_blocks bytes path k before (tree r kids rest) ≡ [] ⊕ validate_blocks bytes path k before rest
unfolding validate_blocks
blocks-other bytes path k before r kids rest e = rw e (sym (none-join (validate_blocks bytes path k before rest)))

items-tree : (bytes path : List ℕ) (k ordered tight : ℕ) (r : Rec) (kids rest : Forest) → validate_list_items bytes path k ordered tight (tree r kids rest) ≡ validate_item (path ++ k ∷ []) ordered tight (eqb (count_trees rest) 0) r kids (blocks_under bytes (path ++ k ∷ []) kids) ⊕ validate_list_items bytes path (k + 1) ordered tight rest
unfolding validate_list_items
items-tree bytes path k ordered tight r kids rest = rw (add-one k)

-- a turn: the tree that was read is no block
pub other-turn : {es : List Entry} {x y z u : Records} {p q : Report} {k : ℕ} {r : Rec} {f : Bool} (before : Before) → Paced es (validate_blocks x.bytes.now (path_of p) k before) x y p q k → ReadsNext y z p.level r → f ≡ is_block r.kind → not f ≡ true → Moved z u (z.next + size (trees z r.level)) → Paced es (validate_blocks x.bytes.now (path_of p) k before) x u p q k
other-turn {x = x} {z = z} {u = u} {p = p} {k = k} {r = r} before v reads g h m =
    let i : u.next ≡ _ = behind-next reads m in
    let few = v.few in
    let t = blocks-other x.bytes.now (path_of p) k before r (trees z r.level) (trees u p.level) (not-true _ (rw g at h)) in
    paced-turn v (passing-tree v.loop.passing reads m) (rw (reads-tree reads m) t) adds-none (omega arith)

-- a turn: the tree that was read is entered and left
module _ {es : List Entry} {x y z u : Records} {p q a b o : Report} {k : ℕ} {r : Rec} (reads : ReadsNext y z p.level r) (n : Enters q a k r.level) (leaves : Leaves b o p.level) where
  pub blocks-turn : {c : Report} {f : Bool} (before : Before) → Paced es (validate_blocks x.bytes.now (path_of p) k before) x y p q k → f ≡ is_block r.kind → not f ≡ false → Adds a c (validate_taken_block (path_of a) r.span before r.kind r.a r.b) → Walked z u c.level c b (block_under z.bytes.now (path_of c) r (trees z c.level)) → {d : Before} → d ≡ before_next before r.kind r.a r.b → Paced es (validate_blocks x.bytes.now (path_of p) (k + 1) d) x u p o (k + 1)
  blocks-turn {c = c} before v g h taken d e =
      let l : c.level ≡ r.level = taken.level ∙ n.level in
      let m : Moved z u (z.next + size (trees z r.level)) = subst (λ (m : ℕ). Moved z u (z.next + size (trees z m))) l d.moved in
      let both = adds-from (λ path level. block_under z.bytes.now path r (trees z level)) taken d.adds in
      let both' = subst (λ (m : ℕ). Adds a b (validate_taken_block (path_of a) r.span before r.kind r.a r.b ⊕ block_under z.bytes.now (path_of a) r (trees z m))) n.level both in
      let i : u.next ≡ _ = behind-next reads m in
      let few = v.few in
      let t = blocks-tree x.bytes.now (path_of p) k before r (trees z r.level) (trees u p.level) (not-false _ (rw g at h)) in
      rw e (paced-turn v (passing-tree v.loop.passing reads m) (rw (reads-tree reads m) t) (paced-visit v n (rw (paced-path v n, loop-bytes v.loop reads) at both') leaves) (omega arith))

  pub items-turn : (ordered tight : ℕ) → Paced es (validate_list_items x.bytes.now (path_of p) k ordered tight) x y p q k → Walked z u a.level a b (validate_item (path_of a) ordered tight (is_last z a.level p.level) r (trees z a.level) (validate_blocks z.bytes.now (path_of a) 0 no_block (trees z a.level))) → Paced es (validate_list_items x.bytes.now (path_of p) (k + 1) ordered tight) x u p o (k + 1)
  items-turn ordered tight v d =
      let d' : Walked z u r.level a b (validate_item (path_of a) ordered tight (is_last z r.level p.level) r (trees z r.level) (validate_blocks z.bytes.now (path_of a) 0 no_block (trees z r.level))) = subst (λ (m : ℕ). Walked z u m a b (validate_item (path_of a) ordered tight (is_last z m p.level) r (trees z m) (validate_blocks z.bytes.now (path_of a) 0 no_block (trees z m)))) n.level d in
      let i : u.next ≡ _ = behind-next reads d'.moved in
      let few = v.few in
      let s = trees-moved p.level d'.moved in
      let t = items-tree x.bytes.now (path_of p) k ordered tight r (trees z r.level) (trees u p.level) in
      paced-turn v (passing-tree v.loop.passing reads d'.moved) (rw (reads-tree reads d'.moved) t) (paced-visit v n (rw (paced-path v n, loop-bytes v.loop reads, ← s) at d'.adds) leaves) (omega arith)

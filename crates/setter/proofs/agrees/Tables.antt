-- Tables: the stops of their rows and cells, and what the check lists of them.
use mathlib.Core.Path.{◌≡◌, refl, ap, sym, ◌∙◌}
use mathlib.Core.Bool.{Bool, true, false, not, true≢false}
use mathlib.Core.List.{List, [], ◌∷◌, ◌++◌}
use Prim.Native.Nat.{ℕ, suc, ◌+◌, ◌≤◌, ◌<◌}
use native.Mathlib.Omega.{arith}
use lib.Dec.{leb, ltb, eqb}
use lib.ListN.{length}
use borrow.Author.Tests.{eqb-true, eqb-false, leb-true, leb-false, ltb-true, ltb-false, eq-eqb, ne_eqb}
use Rattle.leaves.specs.Sheet.Kinds.{table, row, cell}
use Rattle.leaves.specs.Sheet.Forest.{Forest, no_tree, tree, size, count_trees}
use Rattle.leaves.specs.declared.sheet.records.Rec.{Rec}
use Rattle.leaves.specs.declared.sheet.records.Span.{Span}
use Rattle.leaves.specs.Report.Entries.{Entry, list_if, ◌⊕◌}
use Rattle.leaves.specs.Refusal.Groups.{parent_group}
use Rattle.inlines.specs.Depth.{validate_one_line}
use Rattle.inlines.specs.Nodes.{validate_inline_nodes, validate_inlines}
use Rattle.blocks.specs.Table.{validate_cell, validate_cells, validate_rows, header_width, validate_table}
use Rattle.setter.specs.Steps.{Frame, fresh, with_kid}
use Rattle.setter.specs.Stops.{stop_of, stop_at}
use Rattle.setter.specs.Machine.{frame_path, block_path}
use Rattle.setter.specs.Seen.{nearest, in_link, columns}
use Rattle.setter.specs.Agrees.{Begins}
use Rattle.setter.specs.Stops.{beside}
use Rattle.setter.proofs.agrees.Flat.{walk, filled, pile}
use Rattle.setter.proofs.agrees.Fits.{Found, Sub, sub-left, sub-right, sub-if, Clean, clean-none, clean-append, clean-if, Fits, fits-none, fits-map, still, one-stop, alone, fits-alone, fits-tree}
use Rattle.setter.proofs.agrees.KindCases.{rank}
use Rattle.setter.proofs.agrees.Placed.{group_of, Stands, Placed, under_table, under-row}
use Rattle.setter.proofs.agrees.Context.{begins, begins-filled, begins-more, place_other, length-pile}
use Rattle.setter.proofs.agrees.Inlines.{lined, InlineRoot, hold-inlines, inlines-fit}
use Rattle.setter.proofs.agrees.Noise.{clean-values, clean-final}

-- inlines under a block or a cell, which is no link and stands in none
module _ (bytes : List ℕ) (es : List Entry) (f : Frame) (st : List Frame) (i : ℕ) (kids : Forest) (out : in_link (f ∷ st) ≡ false) (a : (k : ℕ) → Stands f.of k → InlineRoot k) (placed : Placed f.of 0 kids) (new : f.kids ≡ []) where
  pub content-fits : (p : List ℕ) → Begins (block_path (f ∷ st)) p → Sub (validate_inlines bytes p kids) es → (lined (f ∷ st) ≡ true → (n : ℕ) × (beside 4 n ≡ true) × Sub (validate_one_line n p kids) es) → Fits bytes es (walk f st i kids) (Clean (validate_inlines bytes p kids) × (lined (f ∷ st) ≡ true → (n : ℕ) → Clean (validate_one_line n p kids)))
  unfolding validate_inlines validate_inline_nodes
  content-fits p e s l =
      fits-map (λ c. (clean-append (clean-final p kids) c.listed, λ h n. c.lines h n))
      (inlines-fit bytes kids es f st i 0 0 p e a placed (rw new) (λ h. refl) (record { listed = sub-right _ s; lines = l; links = λ h. absurd (true≢false (sym h ∙ out)) }))

-- a cell, at the path q of its own
one_cell : (bytes : List ℕ) (es : List Entry) (f : Frame) (st : List Frame) (i : ℕ) (q : List ℕ) (r : Rec) (kids : Forest) → r.kind ≡ cell → Begins (block_path (f ∷ st)) q → in_link (f ∷ st) ≡ false → Placed r 0 kids → Sub (validate_cell bytes q kids) es → (columns (f ∷ st) ≤ length f.kids → Found es 1 (block_path (f ∷ st))) → Fits bytes es (alone f st i r kids) (Clean (validate_cell bytes q kids) × (length f.kids < columns (f ∷ st)))
unfolding stop_of stop_at group_of parent_group in_link nearest beside validate_cell
one_cell bytes es f st i q r kids e b out p s wide =
    fits-map (λ c. (clean-append c.1.0 (clean-append (clean-values bytes q kids) (c.1.1 (rw e) 20)), leb-false _ _ c.0))
    (fits-alone f st i r kids
    (one-stop (leb (columns (f ∷ st)) (length f.kids)) 0 (rw e) (λ h. rw (place_other (fresh i r) (f ∷ st) (rw e)) (wide (leb-true _ _ h))))
    (content-fits bytes es (fresh i r) (f ∷ st) (suc i) kids (rw e out) (hold-inlines r (rw e)) p refl q (rw (place_other (fresh i r) (f ∷ st) (rw e)) b) (sub-left _ s) (λ h. (20, refl, sub-right _ (sub-right _ s))))
    (still (rw e)))

-- the cells of a row, at the path q of its own
cells_fit : (ts : Forest) (bytes : List ℕ) (es : List Entry) (f : Frame) (st : List Frame) (i m k : ℕ) (q : List ℕ) → f.of.kind ≡ row → Placed f.of m ts → Begins (block_path (f ∷ st)) q → in_link (f ∷ st) ≡ false → Sub (validate_cells bytes q k ts) es → (columns (f ∷ st) < length f.kids + count_trees ts → Found es 1 (block_path (f ∷ st))) → Fits bytes es (walk f st i ts) (Clean (validate_cells bytes q k ts) × (length f.kids ≤ columns (f ∷ st) → length f.kids + count_trees ts ≤ columns (f ∷ st)))
unfolding walk validate_cells count_trees Placed frame_path block_path in_link columns
cells_fit no_tree bytes es f st i m k q e p b out s wide = fits-map (λ c. (clean-none, λ h. omega arith)) fits-none
cells_fit (tree r kids rest) bytes es f st i m k q e p b out s wide =
    let one : r.kind ≡ cell = under-row f.of r.kind p.0 (unfold group_of parent_group in rw e) in
    fits-map (λ c. (clean-append c.0.0 c.1.0, λ h. omega (arith, c.1.1 (omega (arith, c.0.1)))))
    (fits-tree f st i r kids rest
    (one_cell bytes es f st i (q ++ k ∷ []) r kids one (begins-more (block_path (f ∷ st)) q (k ∷ []) b) out p.2 (sub-left _ s) (λ h. wide (omega arith)))
    (cells_fit rest bytes es (with_kid r f) st (suc i + size kids) (rank r.kind) (suc k) q e p.3 b out (sub-right _ s) (λ h. wide (omega arith))))

-- all rows are a wide
unfoldable pub Widths : ℕ → Forest → Type 0
Widths a no_tree = Unit {0}
Widths a (tree r kids rest) = (count_trees kids ≡ a) × Widths a rest

-- a row that is not as wide as A is told of: by the header's width, or by its own
odd : (es : List Entry) (p q : List ℕ) (n a w : ℕ) (sp : Span) → Sub (list_if (not (eqb n w)) 19 sp q) es → Begins p q → ((a ≡ w → ⊥) → (s : ℕ) → beside s 18 ≡ true → Found es s p) → (n ≡ a → ⊥) → (s : ℕ) → beside s 18 ≡ true → beside s 19 ≡ true → Found es s p
odd es p q n a w sp h g narrow ne s x y = go (eqb a w) refl
  where
    go : (b : Bool) → eqb a w ≡ b → Found es s p
    go true e = sub-if 19 _ q h (ap not (ne_eqb n w (λ d. ne (d ∙ sym (eqb-true _ _ e))))) y g
    go false e = narrow (eqb-false _ _ e) s x

-- a row, at the path q of its own, where the header has w cells
one-row : (bytes : List ℕ) (es : List Entry) (f : Frame) (st : List Frame) (i w : ℕ) (q : List ℕ) (r : Rec) (kids : Forest) → f.of.kind ≡ table → r.kind ≡ row → Begins (block_path (f ∷ st)) q → in_link (f ∷ st) ≡ false → Placed r 0 kids → Sub (list_if (not (eqb (count_trees kids) w)) 19 r.span q) es → Sub (validate_cells bytes q 0 kids) es → ((f.of.a ≡ w → ⊥) → (s : ℕ) → beside s 18 ≡ true → Found es s (block_path (f ∷ st))) → Fits bytes es (alone f st i r kids) ((count_trees kids ≡ f.of.a) × Clean (validate_cells bytes q 0 kids))
unfolding stop_of stop_at in_link columns beside
one-row bytes es f st i w q r kids g e b out p s₁ s narrow =
    let n : length (pile kids []) ≡ count_trees kids + 0 = length-pile kids [] in
    let cols : columns (fresh i r ∷ f ∷ st) ≡ f.of.a = rw (e, g) in
    let told : (count_trees kids ≡ f.of.a → ⊥) → (s : ℕ) → beside s 18 ≡ true → beside s 19 ≡ true → Found es s (block_path (f ∷ st)) = odd es (block_path (f ∷ st)) q (count_trees kids) f.of.a w r.span s₁ b narrow in
    fits-map
    (λ c.
    let full : count_trees kids ≡ f.of.a = omega (arith, c.1.1 (omega arith), ltb-false (length (pile kids [])) f.of.a c.2) in
    (full, c.1.0))
    (fits-alone f st i r kids
    (still (rw e))
    (cells_fit kids bytes es (fresh i r) (f ∷ st) (suc i) 0 0 q e p (rw (place_other (fresh i r) (f ∷ st) (rw e)) b) (rw e out) s (λ h. rw (place_other (fresh i r) (f ∷ st) (rw e)) (told (λ d. omega arith) 1 refl refl)))
    (one-stop (ltb (length (pile kids [])) f.of.a) 1 (rw (e, g)) (λ h. rw (place_other (filled (fresh i r) (pile kids [])) (f ∷ st) (rw e)) (told (λ d. omega (arith, ltb-true (length (pile kids [])) f.of.a h)) 2 refl refl))))

-- the rows of a table, at the path q of its own
rows_fit : (ts : Forest) (bytes : List ℕ) (es : List Entry) (f : Frame) (st : List Frame) (i m k w : ℕ) (q : List ℕ) → f.of.kind ≡ table → Placed f.of m ts → Begins (block_path (f ∷ st)) q → in_link (f ∷ st) ≡ false → Sub (validate_rows bytes q w k ts) es → ((f.of.a ≡ w → ⊥) → (s : ℕ) → beside s 18 ≡ true → Found es s (block_path (f ∷ st))) → Fits bytes es (walk f st i ts) (Widths f.of.a ts × (w ≡ f.of.a → Clean (validate_rows bytes q w k ts)))
unfolding walk validate_rows Placed frame_path block_path in_link Widths
rows_fit no_tree bytes es f st i m k w q e p b out s narrow = fits-map (λ c. (tt, λ h. clean-none)) fits-none
rows_fit (tree r kids rest) bytes es f st i m k w q e p b out s narrow =
    let line : r.kind ≡ row = under_table f.of r.kind p.0 (unfold group_of parent_group in rw e) in
    fits-map (λ c. ((c.0.0, c.1.0), λ h. clean-append (clean-if 19 _ _ (ap not (eq-eqb (count_trees kids) w (c.0.0 ∙ sym h)))) (clean-append c.0.1 (c.1.1 h))))
    (fits-tree f st i r kids rest
    (one-row bytes es f st i w (q ++ k ∷ []) r kids e line (begins-more (block_path (f ∷ st)) q (k ∷ []) b) out p.2 (sub-left _ s) (sub-left _ (sub-right _ s)) narrow)
    (rows_fit rest bytes es (with_kid r f) st (suc i + size kids) (rank r.kind) (suc k) w q e p.3 b out (sub-right _ (sub-right _ s)) narrow))

-- A = 0: the header's width is 0 too, or is not A
no-columns : (es : List Entry) (p q : List ℕ) (a n : ℕ) (sp : Span) → Sub (list_if (eqb n 0) 17 sp q) es → Sub (list_if (not (eqb a n)) 18 sp q) es → Begins p q → a ≡ 0 → Found es 3 p
unfolding beside
no-columns es p q a n sp x y g z = go (eqb n 0) refl
  where
    go : (b : Bool) → eqb n 0 ≡ b → Found es 3 p
    go true e = sub-if 17 _ q x e refl g
    go false e = sub-if 18 _ q y (ap not (ne_eqb a n (λ d. eqb-false _ _ e (sym d ∙ z)))) refl g

table_none : (bytes q : List ℕ) (sp : Span) (a : ℕ) → validate_table bytes q sp a no_tree ≡ list_if true 16 sp q
unfolding validate_table count_trees
table_none bytes q sp a = refl

table-some : (bytes q : List ℕ) (sp : Span) (a : ℕ) (h : Rec) (cs rest : Forest) → validate_table bytes q sp a (tree h cs rest) ≡ list_if (eqb (count_trees cs) 0) 17 sp q ⊕ (list_if (not (eqb a (count_trees cs))) 18 sp q ⊕ validate_rows bytes q (count_trees cs) 0 (tree h cs rest))
unfolding validate_table header_width count_trees
table-some bytes q sp a h cs rest = rw (ne_eqb (suc (count_trees rest)) 0 (λ d. omega arith))

-- a table, whose path is q
pub table_fits : (bytes : List ℕ) (es : List Entry) (f : Frame) (st : List Frame) (i : ℕ) (q : List ℕ) (r : Rec) (kids : Forest) → r.kind ≡ table → frame_path (fresh i r ∷ f ∷ st) ≡ q → in_link (f ∷ st) ≡ false → Placed r 0 kids → Sub (validate_table bytes q r.span r.a kids) es → Fits bytes es (alone f st i r kids) (Clean (validate_table bytes q r.span r.a kids))
unfolding stop_of stop_at in_link beside pile walk Widths
table_fits bytes es f st i q r no_tree e d out p s =
    fits-map (λ c. absurd (true≢false c.2))
    (fits-alone f st i r no_tree
    (still (rw e))
    fits-none
    (one-stop true 2 (rw e) (λ h. sub-if 16 r.span q (rw (table_none bytes q r.span r.a) at s) refl refl (rw d at (begins-filled (fresh i r) (f ∷ st) (pile no_tree []))))))
table_fits bytes es f st i q r (tree h cs rest) e d out p s =
    let z : eqb (length (pile rest (h ∷ []))) 0 ≡ false = ne_eqb (length (pile rest (h ∷ []))) 0 (λ d. omega (arith, length-pile rest (h ∷ []))) in
    let t = table-some bytes q r.span r.a h cs rest in
    let l = rw t at s in
    let b : Begins (block_path (fresh i r ∷ f ∷ st)) q = rw d at (begins (fresh i r ∷ f ∷ st)) in
    fits-map
    (λ c.
    let full : count_trees cs ≡ r.a = c.1.0.0 in
    rw t
    (clean-append (clean-if 17 _ _ (ne_eqb (count_trees cs) 0 (λ d. eqb-false _ _ c.2 (sym full ∙ d))))
    (clean-append (clean-if 18 _ _ (ap not (eq-eqb r.a (count_trees cs) (sym full)))) (c.1.1 full))))
    (fits-alone f st i r (tree h cs rest)
    (still (rw e))
    (rows_fit (tree h cs rest) bytes es (fresh i r) (f ∷ st) (suc i) 0 0 (count_trees cs) q e p b (rw e out) (sub-right _ (sub-right _ l)) (λ n t g. sub-if 18 _ q (sub-left _ (sub-right _ l)) (ap not (ne_eqb _ _ n)) g b))
    (one-stop (eqb r.a 0) 2 (rw (e, z)) (λ g. no-columns es _ q r.a (count_trees cs) r.span (sub-left _ l) (sub-left _ (sub-right _ l)) (rw d at (begins-filled (fresh i r) (f ∷ st) (pile rest (h ∷ [])))) (eqb-true _ _ g))))

-- Blocks and items: their stops, and what the check lists of them.
use mathlib.Core.Path.{◌≡◌, refl, ap, sym, ◌∙◌}
use mathlib.Core.Logic.{⊎_elim}
use mathlib.Core.Bool.{Bool, true, false, not, ◌&&◌, ◌||◌, true≢false}
use mathlib.Core.List.{List, [], ◌∷◌, ◌++◌}
use Prim.Native.Nat.{ℕ, suc, ◌+◌, ◌≤◌, ◌<◌}
use native.Mathlib.Omega.{arith}
use lib.Dec.{leb, ltb, eqb}
use lib.ListN.{length}
use borrow.Author.Tests.{leb-true, leb-false, lt-ltb, le-ltb, eq-eqb, ne_eqb}
use Rattle.std.specs.Prelude.{if◌then◌else◌}
use Rattle.leaves.specs.Sheet.Kinds.{is_block, list, code_block, blank_line, frontmatter, leaf_directive, container_directive, html_container, item}
use Rattle.leaves.specs.Sheet.Forest.{Forest, no_tree, tree, size, count_trees}
use Rattle.leaves.specs.declared.sheet.records.Rec.{Rec}
use Rattle.leaves.specs.declared.sheet.records.Span.{Span}
use Rattle.leaves.specs.declared.sheet.records.Text.{Text}
use Rattle.leaves.specs.Report.Entries.{Entry, list_if, ◌⊕◌}
use Rattle.leaves.specs.Refusal.Groups.{parent_of_blocks, parent_of_nothing, parent_group, other_group}
use Rattle.leaves.specs.Sheet.Classes.{is_break}
use Rattle.inlines.specs.Depth.{validate_one_line}
use Rattle.inlines.specs.Nodes.{validate_inline_nodes_after, validate_inline_nodes, validate_inlines}
use Rattle.blocks.specs.declared.before.Before.{Before}
use Rattle.blocks.specs.Heads.{validate_heading}
use Rattle.blocks.specs.Frontmatter.{validate_frontmatter}
use Rattle.leaves.specs.Text.Marker.{written_marker}
use Rattle.blocks.specs.Before.{takes_indented_code, validate_taken_block, no_block, before_next}
use Rattle.blocks.specs.List.{validate_list}
use Rattle.blocks.specs.Number.{item_number, validate_item_number}
use Rattle.blocks.specs.Label.{before_blocks, validate_directive}
use Rattle.blocks.specs.Paragraph.{validate_paragraph}
use Rattle.blocks.specs.Holds
use Rattle.blocks.specs.Block.{validate_own}
use Rattle.blocks.specs.Html.{validate_html_container}
use Rattle.blocks.specs.Walk.{validate_block, validate_item, validate_blocks, validate_list_items}
use Rattle.leaves.specs.Refusal.Limits.{most_item_number}
use Rattle.setter.specs.Steps.{Frame, fresh, with_kid, opens, closes}
use Rattle.setter.specs.Machine.{frame_path, block_path, position}
use Rattle.setter.specs.Stops.{stop_of, stop_at}
use Rattle.setter.specs.Seen.{nearest, in_link, behind_break, behind_list, only_empty}
use Rattle.setter.specs.Agrees.{Begins}
use Rattle.setter.specs.Stops.{beside, named}
use Rattle.setter.proofs.agrees.Flat.{walk, filled, pile}
use Rattle.setter.proofs.agrees.Fits.{Sub, sub-left, sub-right, sub-if, Clean, clean-none, clean-append, clean-if, clean-noise, Fits, Fit, fits-none, fits-map, fit-map, still, one-stop, alone, fits-alone, fits-tree, fits-leaf}
use Rattle.setter.proofs.agrees.KindCases.{rank, BlockKind, b1, b2, b3, b4, b5, b6, b7, b8, b9, b10, b11, b12, b13, b14, b15, b16, b17, Blocky, blocky, InlineKind, Inliny, inliny, Extra, Extras, extras}
use Rattle.setter.proofs.agrees.Placed.{group_of, Stands, Placed, leaf, under-blocks, under-list, under-directive, under-tags-blocks, under-tags-inlines}
use Rattle.setter.proofs.agrees.Noise.{clean-final, clean-name, clean-alert, clean-code, clean-definition, clean-task, clean-tags, clean-attributes, clean-blanks, clean-footnote}
use Rattle.setter.proofs.agrees.Context.{begins, begins-filled, path-indexed, length-pile, empty-kids}
use Rattle.setter.proofs.agrees.Inlines.{lined, nodes-in, line-in, nodes-out, line-out, bare-nodes, bare-line, InlineRoot, beforehand, node, hold-inlines, hold-label, node-fits, extra-leaf, extra-fits, inlines-fit}
use Rattle.setter.proofs.agrees.Tables.{content-fits, table_fits}

-- what may stand under p among blocks: only a container directive holds inlines there
pub data Root (p : Rec) (k : ℕ) : Type 0 where
  first_of : Extra k → Root p k
  inlined : p.kind ≡ container_directive → InlineKind k → Root p k
  blocked : BlockKind k → Root p k

pub hold-blocks : (p : Rec) → group_of p ≡ parent_of_blocks → (k : ℕ) → Stands p k → Root p k
hold-blocks p e k s = blocked (under-blocks p k s e)

-- the list before; and rule 1
abbrev list_before : Before → Rec → Bool
list_before b r = eqb b.kind list && eqb (written_marker b.a b.b) (written_marker r.a r.b)

abbrev joins : Before → Rec → Bool
joins b r = eqb b.kind list && eqb r.kind list && eqb (written_marker b.a b.b) (written_marker r.a r.b)

joins-is : (b : Before) (r : Rec) → eqb r.kind list ≡ true → joins b r ≡ list_before b r
joins-is b r e = rw e (go (eqb b.kind list) (eqb (written_marker b.a b.b) (written_marker r.a r.b)))
  where
    go : (x y : Bool) → (x && true && y) ≡ (x && y)
    go true y = refl
    go false y = refl

joins-other : (b : Before) (r : Rec) → eqb r.kind list ≡ false → joins b r ≡ false
joins-other b r e = rw e (go (eqb b.kind list) (eqb (written_marker b.a b.b) (written_marker r.a r.b)))
  where
    go : (x y : Bool) → (x && false && y) ≡ false
    go true y = refl
    go false y = refl

-- the siblings that have closed, as the check knows them: k blocks, b the last that is no blank line, c the kind of the last inline, none of a rank over m
pub record Told (ks : List Rec) (m k : ℕ) (b : Before) (c : ℕ) : Type 0 where
  pub many : position ks ≡ k
  pub lists : (r : Rec) → behind_list ks r ≡ list_before b r
  pub broke : m ≤ 1 → is_break c ≡ behind_break ks
  pub early : m ≤ 1 → b ≡ no_block
  pub start : m ≤ 0 → c ≡ 0

pub told_none : Told [] 0 0 no_block 0
unfolding position behind_list
told_none = record { many = refl; lists = λ r. refl; broke = λ h. refl; early = λ h. refl; start = λ h. refl }

module _ {ks : List Rec} {m k : ℕ} {b : Before} {c : ℕ} (t : Told ks m k b c) (r : Rec) where
  told-extra : m ≤ 0 → Extras r.kind → Told (r ∷ ks) (rank r.kind) k b c
  unfolding position behind_list
  told-extra h y =
      record {
        many = rw y.no_index t.many;
        lists = λ s. rw (y.no_blank, y.no_list, t.early (omega arith));
        broke = λ g. rw (y.no_break, t.start h);
        early = λ g. t.early (omega arith);
        start = λ g. t.start h;
      }

  told-inline : m ≤ 1 → Inliny r.kind → Told (r ∷ ks) (rank r.kind) k b r.kind
  unfolding position behind_list
  told-inline h y =
      record {
        many = rw y.no_index t.many;
        lists = λ s. rw (y.no_blank, y.no_list, t.early h);
        broke = λ g. refl;
        early = λ g. t.early h;
        start = λ g. absurd (let x : rank r.kind ≡ 1 = y.is_second in omega arith);
      }

  told-block : Blocky r.kind → Told (r ∷ ks) (rank r.kind) (suc k) (before_next b r.kind r.a r.b) c
  unfolding position behind_list before_next
  told-block y =
      let e : rank r.kind ≡ 2 = y.is_last in
      record {
        many = rw y.is_indexed (ap suc t.many);
        lists = λ s. go s (eqb r.kind blank_line) refl;
        broke = λ g. absurd (omega arith);
        early = λ g. absurd (omega arith);
        start = λ g. absurd (omega arith);
      }
    where
      go : (s : Rec) (x : Bool) → eqb r.kind blank_line ≡ x → behind_list (r ∷ ks) s ≡ list_before (before_next b r.kind r.a r.b) s
      go s true d = rw d (t.lists s)
      go s false d = rw d

-- what a container directive lists of its label: the trees before its blocks
pub record Label (bytes : List ℕ) (es : List Entry) (p : List ℕ) (c : ℕ) (ts : Forest) : Type 0 where
  pub nodes : Sub (validate_inline_nodes_after bytes p c (before_blocks ts)) es
  pub line : Sub (validate_one_line 23 p (before_blocks ts)) es

pub record CleanLabel (bytes p : List ℕ) (c : ℕ) (ts : Forest) : Type 0 where
  pub nodes : Clean (validate_inline_nodes_after bytes p c (before_blocks ts))
  pub line : Clean (validate_one_line 23 p (before_blocks ts))

before-none : before_blocks no_tree ≡ no_tree
unfolding before_blocks
before-none = refl

before-block : (r : Rec) (kids rest : Forest) → is_block r.kind ≡ true → before_blocks (tree r kids rest) ≡ no_tree
unfolding before_blocks
before-block r kids rest h = rw h

before-other : (r : Rec) (kids rest : Forest) → is_block r.kind ≡ false → before_blocks (tree r kids rest) ≡ tree r kids (before_blocks rest)
unfolding before_blocks
before-other r kids rest h = rw h

label-none : (bytes p : List ℕ) (c : ℕ) (ts : Forest) → before_blocks ts ≡ no_tree → CleanLabel bytes p c ts
label-none bytes p c ts e = record { nodes = bare-nodes bytes p c (before_blocks ts) e; line = bare-line 23 p (before_blocks ts) e }

-- a label alone
no-block : (k : ℕ) → InlineRoot k → is_block k ≡ false
no-block k (beforehand x) = (extras k x).no_block
no-block k (node kd) = (inliny k kd).no_block

all-before : (p : Rec) (m : ℕ) (ts : Forest) → ((k : ℕ) → Stands p k → InlineRoot k) → Placed p m ts → before_blocks ts ≡ ts
unfolding Placed
all-before p m no_tree a h = before-none
all-before p m (tree r kids rest) a h =
    before-other r kids rest (no-block r.kind (a r.kind h.0)) ∙ ap (λ (t : Forest). tree r kids t) (all-before p (rank r.kind) rest a h.3)

clean-directive : (bytes q : List ℕ) (sp : Span) (n : ℕ) (name : Text) (ts : Forest) → before_blocks ts ≡ ts → Clean (validate_inlines bytes q ts) → Clean (validate_one_line n q ts) → Clean (validate_directive bytes q n sp name ts)
unfolding validate_directive
clean-directive bytes q sp n name ts e x y = rw e (clean-append (clean-name bytes q sp name) (clean-append (clean-attributes bytes q ts) (clean-append x y)))

-- the laws of a forest of blocks and of one of items, under any open records
abbrev pub Blocks : List ℕ → Forest → Type 0
Blocks bytes ts =
    (es : List Entry) (f : Frame) (st : List Frame) (i m k : ℕ) (b : Before) (c : ℕ) → ((k : ℕ) → Stands f.of k → Root f.of k) → Placed f.of m ts
    → Told f.kids m k b c → in_link (f ∷ st) ≡ false → Sub (validate_blocks bytes (frame_path (f ∷ st)) k b ts) es → (f.of.kind ≡ container_directive → m ≤ 1 → Label bytes es (frame_path (f ∷ st)) c ts)
    → Fits bytes es (walk f st i ts) (Clean (validate_blocks bytes (frame_path (f ∷ st)) k b ts) × (f.of.kind ≡ container_directive → m ≤ 1 → CleanLabel bytes (frame_path (f ∷ st)) c ts))

abbrev pub Items : List ℕ → Forest → Type 0
Items bytes ts =
    (es : List Entry) (f : Frame) (st : List Frame) (i m k tight : ℕ) → f.of.kind ≡ list → Placed f.of m ts → position f.kids ≡ k → in_link (f ∷ st) ≡ false
    → Sub (validate_list_items bytes (frame_path (f ∷ st)) k f.of.a tight ts) es → Fits bytes es (walk f st i ts) (Clean (validate_list_items bytes (frame_path (f ∷ st)) k f.of.a tight ts))

-- the blocks of a container, whose path is q
module _ (bytes : List ℕ) (es : List Entry) (f : Frame) (st : List Frame) (i : ℕ) (kids : Forest) (q : List ℕ) (at-q : frame_path (f ∷ st) ≡ q) (out : in_link (f ∷ st) ≡ false) (new : f.kids ≡ []) (placed : Placed f.of 0 kids) (ih : Blocks bytes kids) where
  within : ((k : ℕ) → Stands f.of k → Root f.of k) → Sub (validate_blocks bytes q 0 no_block kids) es → (f.of.kind ≡ container_directive → 0 ≤ 1 → Label bytes es q 0 kids) → Fits bytes es (walk f st i kids) (Clean (validate_blocks bytes q 0 no_block kids) × (f.of.kind ≡ container_directive → 0 ≤ 1 → CleanLabel bytes q 0 kids))
  within a s t = rw at-q at (ih es f st i 0 0 no_block 0 a placed (rw new told_none) out (rw at-q s) (rw at-q t))

-- a heading's depth, as the machine and the check ask for it
depth_same : (a : ℕ) → not (leb 1 a && leb a 6) ≡ (eqb a 0 || ltb 6 a)
depth_same a = go (leb 1 a) refl (leb a 6) refl
  where
    go : (x : Bool) → leb 1 a ≡ x → (y : Bool) → leb a 6 ≡ y → not (x && y) ≡ (eqb a 0 || ltb 6 a)
    go false u y v = let h : a < 1 = leb-false _ _ u in rw (eq-eqb a 0 (omega arith))
    go true u true v = let h : 1 ≤ a = leb-true _ _ u in let g : a ≤ 6 = leb-true _ _ v in rw (ne_eqb a 0 (λ d. omega arith), le-ltb 6 a g)
    go true u false v = let h : 1 ≤ a = leb-true _ _ u in let g : 6 < a = leb-false _ _ v in rw (ne_eqb a 0 (λ d. omega arith), lt-ltb 6 a g)

-- what a block lists of its items or blocks
abbrev held : List ℕ → List ℕ → Rec → Forest → List Entry
held bytes q r kids =
    if eqb r.kind list
    then validate_list_items bytes q 0 r.a r.c kids
    else if Holds.holds_blocks r.kind r.a
    then validate_blocks bytes q 0 no_block kids
    else []

-- one block, whose path is q
module _ (bytes : List ℕ) (es : List Entry) (f : Frame) (st : List Frame) (i : ℕ) (b : Before) (r : Rec) (kids : Forest) (q : List ℕ) (at-q : frame_path (fresh i r ∷ f ∷ st) ≡ q) (out : in_link (f ∷ st) ≡ false) (placed : Placed r 0 kids) (same : behind_list f.kids r ≡ list_before b r) (s₁ : Sub (list_if (joins b r) 1 r.span q) es) (s : Sub (validate_own bytes q r kids) es) (t : Sub (held bytes q r kids) es) where
  abbrev own₀ : List Entry
  own₀ = validate_own bytes q r kids

  abbrev held₀ : List Entry
  held₀ = held bytes q r kids

  abbrev Block : Type 0
  Block = Fits bytes es (alone f st i r kids) (Clean (list_if (joins b r) 1 r.span q) × Clean own₀ × Clean held₀)

  abbrev open₀ : ℕ
  open₀ = stop_of bytes (opens (fresh i r) (f ∷ st))

  abbrev close₀ : ℕ
  close₀ = stop_of bytes (closes (filled (fresh i r) (pile kids [])) (f ∷ st))

  at : (ks : List Rec) → Begins (block_path (filled (fresh i r) ks ∷ f ∷ st)) q
  at ks = rw at-q at (begins-filled (fresh i r) (f ∷ st) ks)

  apart : eqb r.kind list ≡ false → Clean (list_if (joins b r) 1 r.span q)
  apart e = clean-if 1 _ q (joins-other b r e)

  -- the sorts of blocks, each with what is asked of its kind
  -- no stop, no child
  block-plain : group_of r ≡ parent_of_nothing → eqb r.kind list ≡ false → open₀ ≡ 0 → close₀ ≡ 0 → Clean own₀ → Clean held₀ → Block
  block-plain bare nl o c n m = fits-map (λ x. (apart nl, n, m)) (fits-alone f st i r kids (still o) (fits-leaf _ _ _ _ (leaf r 0 kids placed bare)) (still c))

  -- a container of blocks
  block-holder : Blocks bytes kids → ((k : ℕ) → Stands r k → Root r k) → (r.kind ≡ container_directive → ⊥) → eqb r.kind list ≡ false → in_link (fresh i r ∷ f ∷ st) ≡ false → open₀ ≡ 0 → close₀ ≡ 0 → Clean own₀ → held₀ ≡ validate_blocks bytes q 0 no_block kids → Block
  block-holder ih a nd nl k o c n m =
      fits-map (λ x. (apart nl, n, rw m x.1.0))
      (fits-alone f st i r kids (still o) (within bytes es (fresh i r) (f ∷ st) (suc i) kids q at-q k refl placed ih a (rw m at t) (λ h. absurd (nd h))) (still c))

  -- inlines, in a block that is no directive and stops by x at its opening and by y at its closing
  block-content : ((k : ℕ) → Stands r k → InlineRoot k) → eqb r.kind list ≡ false → in_link (fresh i r ∷ f ∷ st) ≡ false → lined (fresh i r ∷ f ∷ st) ≡ false → {X Y : Type 0} → Fit bytes es (opens (fresh i r) (f ∷ st)) X → Fit bytes es (closes (filled (fresh i r) (pile kids [])) (f ∷ st)) Y → Sub (validate_inlines bytes q kids) es → (X → Clean (validate_inlines bytes q kids) → Y → Clean own₀) → Clean held₀ → Block
  block-content a nl k free x y u v m =
      fits-map (λ w. (apart nl, v w.0 w.1.0 w.2, m))
      (fits-alone f st i r kids x (content-fits bytes es (fresh i r) (f ∷ st) (suc i) kids k a placed refl q (at []) u (λ h. absurd (true≢false (sym h ∙ free)))) y)

  block-list : Items bytes kids → r.kind ≡ list → Block
  unfolding stop_of stop_at validate_own validate_list in_link position beside named
  block-list ih e =
      let l : Sub (validate_list q r.span r.c kids) es = rw e at s in
      let u : Sub (validate_list_items bytes q 0 r.a r.c kids) es = rw e at t in
      let m : count_trees kids ≡ length (pile kids []) = omega (arith, length-pile kids []) in
      let n : eqb (count_trees kids) 0 ≡ eqb (length (pile kids [])) 0 = ap (λ (x : ℕ). eqb x 0) m in
      let j : joins b r ≡ behind_list f.kids r = joins-is b r (rw e) ∙ sym same in
      fits-map (λ c. (clean-if 1 _ q (j ∙ c.0), rw e (clean-append (clean-if 12 _ q (n ∙ c.2)) (clean-noise _ 13 _ q refl)), rw e c.1))
      (fits-alone f st i r kids
      (one-stop (behind_list f.kids r) 13 (rw e) (λ h. sub-if 1 _ q s₁ (j ∙ h) refl (at [])))
      (rw at-q at (ih es (fresh i r) (f ∷ st) (suc i) 0 0 r.c e placed refl (rw e out) (rw at-q u)))
      (one-stop (eqb (length (pile kids [])) 0) 8 (rw e) (λ h. sub-if 12 _ q (sub-left _ l) (n ∙ h) refl (at (pile kids [])))))

  block-front : r.kind ≡ frontmatter → Block
  unfolding stop_of stop_at validate_own validate_frontmatter Holds.holds_blocks group_of parent_group other_group beside named
  block-front e =
      let l : Sub (validate_frontmatter bytes q r.span r.level r.a r.first) es = rw e at s in
      fits-map (λ c. (apart (rw e), rw e (clean-append (clean-if 28 _ q c.0) (clean-noise _ 29 _ q refl)), rw e clean-none))
      (fits-alone f st i r kids
      (one-stop (ltb 1 r.level) 11 (rw e) (λ h. sub-if 28 _ q (sub-left _ l) h refl (at [])))
      (fits-leaf _ _ _ _ (leaf r 0 kids placed (rw e)))
      (still (rw e)))

  block-leaf-directive : r.kind ≡ leaf_directive → Block
  unfolding stop_of stop_at validate_own validate_directive Holds.holds_blocks group_of parent_group other_group in_link nearest beside named
  block-leaf-directive e =
      let l : Sub (validate_directive bytes q 22 r.span r.first kids) es = rw e at s in
      let a : (k : ℕ) → Stands r k → InlineRoot k = hold-label r (rw e) in
      let z : before_blocks kids ≡ kids = all-before r 0 kids a placed in
      let line : lined (fresh i r ∷ f ∷ st) ≡ true = rw e in
      fits-map (λ c. (apart (rw e), rw e (clean-directive bytes q r.span 22 r.first kids z c.1.0 (c.1.1 line 22)), rw e clean-none))
      (fits-alone f st i r kids
      (still (rw e))
      (content-fits bytes es (fresh i r) (f ∷ st) (suc i) kids (rw e out) a placed refl q (at []) (rw z at (sub-left _ (sub-right _ (sub-right _ l)))) (λ h. (22, refl, rw z at (sub-right _ (sub-right _ (sub-right _ l))))))
      (still (rw e)))

  block-directive : Blocks bytes kids → r.kind ≡ container_directive → Block
  unfolding stop_of stop_at validate_own validate_directive validate_inlines validate_inline_nodes Holds.holds_blocks group_of parent_group other_group in_link named
  block-directive ih e =
      let l : Sub (validate_directive bytes q 23 r.span r.first kids) es = rw e at s in
      let u : Sub (validate_blocks bytes q 0 no_block kids) es = rw e at t in
      fits-map (λ c. let w = c.1.1 e (omega arith) in (apart (rw e), rw e (clean-append (clean-name bytes q r.span r.first) (clean-append (clean-attributes bytes q (before_blocks kids)) (clean-append (clean-append (clean-final q (before_blocks kids)) w.nodes) w.line))), rw e c.1.0))
      (fits-alone f st i r kids
      (still (rw e))
      (within bytes es (fresh i r) (f ∷ st) (suc i) kids q at-q (rw e out) refl placed ih
      (λ k h. ⊎_elim first_of (λ g. ⊎_elim (inlined e) blocked g) (under-directive r k h (rw e)))
      u (λ h g. record { nodes = sub-right _ (sub-left _ (sub-right _ (sub-right _ l))); line = sub-right _ (sub-right _ (sub-right _ l)) }))
      (still (rw e)))

  block-html : Blocks bytes kids → r.kind ≡ html_container → Block
  unfolding stop_of stop_at validate_own validate_html_container Holds.holds_blocks group_of parent_group other_group in_link nearest named
  block-html ih e = go (eqb r.a 0) refl
    where
      go : (x : Bool) → eqb r.a 0 ≡ x → Block
      go true u =
          block-holder ih (λ k h. ⊎_elim first_of blocked (under-tags-blocks r k h (rw (e, u)))) (λ h. let z : ◌≡◌ {A = ℕ} 9 16 = sym e ∙ h in omega arith) (rw e) (rw e out) (rw e) (rw e)
          (rw (e, u) (clean-append (clean-tags bytes q r.span kids) clean-none)) (rw (e, u))
      go false u =
          block-content (λ k h. ⊎_elim beforehand node (under-tags-inlines r k h (rw (e, u)))) (rw e) (rw e out) (rw e) (still (rw e)) (still (rw e))
          (sub-right _ (rw (e, u) at s)) (λ x c y. rw (e, u) (clean-append (clean-tags bytes q r.span kids) c)) (rw (e, u) clean-none)

  block-fits : Blocks bytes kids → Items bytes kids → BlockKind r.kind → Block
  unfolding stop_of stop_at validate_own validate_paragraph validate_heading Holds.holds_blocks group_of parent_group other_group in_link nearest beside named
  block-fits ihb ihi (b1 e) =
      block-content (hold-inlines r (rw e)) (rw e) (rw e out) (rw e) (still (rw e))
      (one-stop (only_empty (pile kids [])) 9 (rw e) (λ h. sub-if 2 _ q (sub-left _ (rw e at s)) (sym (empty-kids r kids (rw e) placed) ∙ h) refl (at (pile kids []))))
      (sub-right _ (rw e at s)) (λ x c y. rw e (clean-append (clean-if 2 _ q (sym (empty-kids r kids (rw e) placed) ∙ y)) c)) (rw e clean-none)
  block-fits ihb ihi (b2 e) =
      block-content (hold-inlines r (rw e)) (rw e) (rw e out) (rw e)
      (one-stop (eqb r.a 0 || ltb 6 r.a) 5 (rw (e, depth_same r.a)) (λ h. sub-if 10 _ q (sub-left _ (rw e at s)) h refl (at [])))
      (still (rw e))
      (sub-right _ (rw e at s)) (λ x c y. rw e (clean-append (clean-if 10 _ q x) c)) (rw e clean-none)
  block-fits ihb ihi (b3 e) = block-plain (rw e) (rw e) (rw e) (rw e) (rw e clean-none) (rw e clean-none)
  block-fits ihb ihi (b4 e) = block-holder ihb (hold-blocks r (rw e)) (λ h. let z : ◌≡◌ {A = ℕ} 4 16 = sym e ∙ h in omega arith) (rw e) (rw e out) (rw e) (rw e) (rw e clean-none) (rw e)
  block-fits ihb ihi (b5 e) = block-holder ihb (hold-blocks r (rw e)) (λ h. let z : ◌≡◌ {A = ℕ} 5 16 = sym e ∙ h in omega arith) (rw e) (rw e out) (rw e) (rw e) (rw e (clean-alert bytes q r.span r.a r.first)) (rw e)
  block-fits ihb ihi (b6 e) = block-list ihi e
  block-fits ihb ihi (b7 e) = block-plain (rw e) (rw e) (rw e) (rw e) (rw e (clean-code bytes q r.span r.a r.b r.first r.second)) (rw e clean-none)
  block-fits ihb ihi (b8 e) = block-plain (rw e) (rw e) (rw e) (rw e) (rw e clean-none) (rw e clean-none)
  block-fits ihb ihi (b9 e) = block-html ihb e
  block-fits ihb ihi (b10 e) = block-plain (rw e) (rw e) (rw e) (rw e) (rw e (clean-definition bytes q r.span r.a r.first r.second)) (rw e clean-none)
  block-fits ihb ihi (b11 e) = block-holder ihb (hold-blocks r (rw e)) (λ h. let z : ◌≡◌ {A = ℕ} 11 16 = sym e ∙ h in omega arith) (rw e) (rw e out) (rw e) (rw e) (rw e (clean-footnote q r.span r.first kids)) (rw e)
  block-fits ihb ihi (b12 e) = fits-map (λ c. (apart (rw e), rw e c, rw e clean-none)) (table_fits bytes es f st i q r kids e at-q out placed (rw e at s))
  block-fits ihb ihi (b13 e) = block-plain (rw e) (rw e) (rw e) (rw e) (rw e clean-none) (rw e clean-none)
  block-fits ihb ihi (b14 e) = block-front e
  block-fits ihb ihi (b15 e) = block-leaf-directive e
  block-fits ihb ihi (b16 e) = block-directive ihb e
  block-fits ihb ihi (b17 e) = block-plain (rw e) (rw e) (rw e) (rw e) (rw e clean-none) (rw e clean-none)

-- an item's number: its two stops, and its two rules
module _ (bytes : List ℕ) (es : List Entry) (f : Frame) (st : List Frame) (i : ℕ) (r : Rec) (q : List ℕ) (e : r.kind ≡ item) (d : frame_path (fresh i r ∷ f ∷ st) ≡ q) (s : Sub (validate_item_number q r.span f.of.a (item_number r.b r.c)) es) where
  number_fits : Fit bytes es (opens (fresh i r) (f ∷ st)) (Clean (validate_item_number q r.span f.of.a (item_number r.b r.c)))
  unfolding stop_of stop_at validate_item_number item_number beside
  number_fits = go (eqb f.of.a 1) refl (eqb r.b 1) refl
    where
      at : Begins (block_path (fresh i r ∷ f ∷ st)) q
      at = rw d at (begins (fresh i r ∷ f ∷ st))

      go : (x : Bool) → eqb f.of.a 1 ≡ x → (y : Bool) → eqb r.b 1 ≡ y → Fit bytes es (opens (fresh i r) (f ∷ st)) (Clean (validate_item_number q r.span f.of.a (item_number r.b r.c)))
      go true u false v = fit-map (λ c. rw v clean-none) (still (rw (e, u, v)))
      go false u false v = fit-map (λ c. rw v clean-none) (still (rw (e, u, v)))
      go true u true v = fit-map (λ c. rw (v, u) (clean-append (clean-if 49 _ q refl) (clean-if 50 _ q c))) (one-stop (ltb most_item_number r.c) 6 (rw (e, u, v)) (λ h. sub-if 50 _ q (sub-right _ (rw (v, u) at s)) h refl at))
      go false u true v = fit-map (λ c. absurd (true≢false c)) (one-stop true 7 (rw (e, u, v)) (λ h. sub-if 49 _ q (sub-left _ (rw (v, u) at s)) refl refl at))

-- an item and the items after it
module _ (bytes : List ℕ) (es : List Entry) (f : Frame) (st : List Frame) (i m k tight : ℕ) (r : Rec) (kids rest : Forest) (ihb : Blocks bytes kids) (ihr : Items bytes rest) where
  tree-item : f.of.kind ≡ list → Placed f.of m (tree r kids rest) → position f.kids ≡ k → in_link (f ∷ st) ≡ false → Sub (validate_list_items bytes (frame_path (f ∷ st)) k f.of.a tight (tree r kids rest)) es → Fits bytes es (walk f st i (tree r kids rest)) (Clean (validate_list_items bytes (frame_path (f ∷ st)) k f.of.a tight (tree r kids rest)))
  unfolding validate_list_items validate_item Placed frame_path in_link position stop_of stop_at group_of parent_group named
  tree-item e placed t out s =
      let one : r.kind ≡ item = under-list f.of r.kind placed.0 (rw e) in
      let q : List ℕ = frame_path (f ∷ st) ++ k ∷ [] in
      let at-q : frame_path (fresh i r ∷ f ∷ st) ≡ frame_path (f ∷ st) ++ k ∷ [] = path-indexed (fresh i r) (f ∷ st) (rw one) ∙ ap (λ (n : ℕ). frame_path (f ∷ st) ++ n ∷ []) t in
      let u = sub-left _ s in
      fits-map (λ x. clean-append (clean-append x.0.0 (clean-append (clean-blanks q (eqb tight 1) _ 0 kids) (clean-append (clean-task bytes q r.span r.a kids) x.0.1.0))) x.1)
      (fits-tree f st i r kids rest
      (fits-alone f st i r kids
      (number_fits bytes es f st i r q one at-q (sub-left _ u))
      (within bytes es (fresh i r) (f ∷ st) (suc i) kids q at-q (rw one out) refl placed.2 ihb (hold-blocks r (rw one)) (sub-right _ (sub-right _ (sub-right _ u))) (λ h. absurd (let z : ◌≡◌ {A = ℕ} 20 16 = sym one ∙ h in omega arith)))
      (still (rw one)))
      (ihr es (with_kid r f) st (suc i + size kids) (rank r.kind) (suc k) tight e placed.3 (rw one (ap suc t)) out (sub-right _ s)))

-- what is listed of a tree and of the trees after it
module _ (bytes : List ℕ) (r : Rec) (kids rest : Forest) (p : List ℕ) (k : ℕ) (b : Before) where
  of-block : is_block r.kind ≡ true → validate_blocks bytes p k b (tree r kids rest) ≡ (list_if (joins b r) 1 r.span (p ++ k ∷ []) ⊕ list_if (eqb r.kind code_block && eqb r.a 1 && takes_indented_code b.kind b.a) 15 r.span (p ++ k ∷ [])) ⊕ ((validate_own bytes (p ++ k ∷ []) r kids ⊕ held bytes (p ++ k ∷ []) r kids) ⊕ validate_blocks bytes p (suc k) (before_next b r.kind r.a r.b) rest)
  unfolding validate_blocks validate_block validate_taken_block
  of-block h = rw h

  of_other : is_block r.kind ≡ false → validate_blocks bytes p k b (tree r kids rest) ≡ validate_blocks bytes p k b rest
  unfolding validate_blocks
  of_other h = rw h

-- a tree and the trees after it
module _ (bytes : List ℕ) (es : List Entry) (f : Frame) (st : List Frame) (i m k : ℕ) (b : Before) (c : ℕ) (r : Rec) (kids rest : Forest) (ihb : Blocks bytes kids) (ihi : Items bytes kids) (ihr : Blocks bytes rest) (holder : (k : ℕ) → Stands f.of k → Root f.of k) (placed : Placed f.of m (tree r kids rest)) (told : Told f.kids m k b c) (out : in_link (f ∷ st) ≡ false) (s : Sub (validate_blocks bytes (frame_path (f ∷ st)) k b (tree r kids rest)) es) (t : f.of.kind ≡ container_directive → m ≤ 1 → Label bytes es (frame_path (f ∷ st)) c (tree r kids rest)) where
  abbrev Tree : Type 0
  Tree = Fits bytes es (walk f st i (tree r kids rest)) (Clean (validate_blocks bytes (frame_path (f ∷ st)) k b (tree r kids rest)) × (f.of.kind ≡ container_directive → m ≤ 1 → CleanLabel bytes (frame_path (f ∷ st)) c (tree r kids rest)))

  tree-block : BlockKind r.kind → Tree
  unfolding Placed frame_path in_link named
  tree-block kd =
      let y : Blocky r.kind = blocky r.kind kd in
      let eb = of-block bytes r kids rest (frame_path (f ∷ st)) k b y.a_block in
      let l = rw eb at s in
      let o = sub-left _ (sub-right _ l) in
      fits-map (λ x. (rw eb (clean-append (clean-append x.0.0 (clean-noise _ 15 _ _ refl)) (clean-append (clean-append x.0.1 x.0.2) x.1.0)), λ h g. label-none bytes _ c (tree r kids rest) (before-block r kids rest y.a_block)))
      (fits-tree f st i r kids rest
      (block-fits bytes es f st i b r kids (frame_path (f ∷ st) ++ k ∷ []) (path-indexed (fresh i r) (f ∷ st) y.is_indexed ∙ ap (λ (n : ℕ). frame_path (f ∷ st) ++ n ∷ []) told.many) out placed.2 (told.lists r) (sub-left _ (sub-left _ l)) (sub-left _ o) (sub-right _ o) ihb ihi kd)
      (ihr es (with_kid r f) st (suc i + size kids) (rank r.kind) (suc k) (before_next b r.kind r.a r.b) c holder placed.3 (told-block told r y) out (sub-right _ (sub-right _ l)) (λ h g. absurd (let z : rank r.kind ≡ 2 = y.is_last in omega arith))))

  tree-inline : f.of.kind ≡ container_directive → InlineKind r.kind → Tree
  unfolding Placed frame_path in_link nearest beside named
  tree-inline e kd =
      let y : Inliny r.kind = inliny r.kind kd in
      let low : m ≤ 1 = rw y.is_second at placed.1 in
      let next : rank r.kind ≤ 1 = let z : rank r.kind ≡ 1 = y.is_second in omega arith in
      let eb = of_other bytes r kids rest (frame_path (f ∷ st)) k b y.no_block in
      let ef = before-other r kids rest y.no_block in
      let en = nodes-in bytes r kids (before_blocks rest) (frame_path (f ∷ st)) y.an_inline c in
      let el = line-in bytes r kids (before_blocks rest) (frame_path (f ∷ st)) 23 in
      let n = rw (ef, en) at (t e low).nodes in
      let l = sub-left _ n in
      let o = rw (ef, el) at (t e low).line in
      let line : lined (f ∷ st) ≡ true = rw e in
      fits-map
      (λ x. (
        rw eb x.1.0,
        λ h g.
            let w = x.1.1 h next in
            record {
              nodes = rw (ef, en) (clean-append (clean-append (clean-append x.0.broken (clean-noise _ 38 _ _ refl)) (clean-append x.0.own x.0.under)) w.nodes);
              line = rw (ef, el) (clean-append (x.0.lines line 23).0 (clean-append (x.0.lines line 23).1 w.line));
            },
      ))
      (fits-tree f st i r kids rest
      (node-fits bytes es f st i c (frame_path (f ∷ st)) (begins (f ∷ st)) r kids (told.broke low) placed.2
      (record { broken = sub-left _ (sub-left _ l); own = sub-left _ (sub-right _ l); under = sub-right _ (sub-right _ l); lines = λ h. (23, refl, sub-left _ o, sub-left _ (sub-right _ o)); links = λ h. absurd (true≢false (sym h ∙ out)) })
      y (inlines-fit bytes kids) kd)
      (ihr es (with_kid r f) st (suc i + size kids) (rank r.kind) k b r.kind holder placed.3 (told-inline told r low y) out (rw eb at s) (λ h g. record { nodes = sub-right _ n; line = sub-right _ (sub-right _ o) })))

  tree-extra : Extra r.kind → Tree
  unfolding Placed frame_path in_link
  tree-extra x =
      let y : Extras r.kind = extras r.kind x in
      let low : m ≤ 0 = rw y.is_first at placed.1 in
      let next : rank r.kind ≤ 1 = let z : rank r.kind ≡ 0 = y.is_first in omega arith in
      let z : kids ≡ no_tree = extra-leaf r kids placed.2 x in
      let eb = of_other bytes r kids rest (frame_path (f ∷ st)) k b y.no_block in
      let ef = before-other r kids rest y.no_block in
      let en = nodes-out bytes r kids (before_blocks rest) (frame_path (f ∷ st)) y.no_inline c in
      let el = line-out bytes r kids (before_blocks rest) (frame_path (f ∷ st)) z y.no_break 23 in
      fits-map (λ x. (rw eb x.1.0, λ h g. let w = x.1.1 h next in record { nodes = rw (ef, en) w.nodes; line = rw (ef, el) w.line }))
      (fits-tree f st i r kids rest
      (extra-fits bytes es f st i r kids placed.2 x)
      (ihr es (with_kid r f) st (suc i + size kids) (rank r.kind) k b c holder placed.3 (told-extra told r low y) out (rw eb at s) (λ h g. let w = t h (omega arith) in record { nodes = rw (ef, en) at w.nodes; line = rw (ef, el) at w.line })))

  tree-fits : Root f.of r.kind → Tree
  tree-fits (first_of x) = tree-extra x
  tree-fits (inlined e kd) = tree-inline e kd
  tree-fits (blocked kd) = tree-block kd

pub blocks-fit : (bytes : List ℕ) (ts : Forest) → Blocks bytes ts × Items bytes ts
unfolding walk validate_blocks validate_list_items Placed
blocks-fit bytes no_tree = (
  λ es f st i m k b c holder placed told out s t. fits-map (λ x. (clean-none, λ h g. label-none bytes _ c no_tree before-none)) fits-none,
  λ es f st i m k tight e placed t out s. fits-map (λ x. clean-none) fits-none,
)
blocks-fit bytes (tree r kids rest) = (
  λ es f st i m k b c holder placed told out s t. tree-fits bytes es f st i m k b c r kids rest (blocks-fit bytes kids).0 (blocks-fit bytes kids).1 (blocks-fit bytes rest).0 holder placed told out s t (holder r.kind placed.0),
  λ es f st i m k tight e placed t out s. tree-item bytes es f st i m k tight r kids rest (blocks-fit bytes kids).0 (blocks-fit bytes rest).1 e placed t out s,
)

-- Inline content: the stops of a forest of inlines, and what the check lists of it.
use mathlib.Core.Path.{◌≡◌, refl, ap, sym, ◌∙◌}
use mathlib.Core.Logic.{⊎_elim}
use mathlib.Core.Bool.{Bool, true, false, ◌&&◌, and_comm, true≢false}
use mathlib.Core.List.{List, [], ◌∷◌}
use Prim.Native.Nat.{ℕ, suc, ◌+◌, ◌≤◌}
use native.Mathlib.Omega.{arith}
use lib.Dec.{eqb}
use Rattle.std.specs.Prelude.{if◌then◌else◌}
use Rattle.leaves.specs.Text.Lines.{holds_line_ending}
use Rattle.leaves.specs.Sheet.Kinds.{among, is_inline, cell, leaf_directive, container_directive}
use Rattle.leaves.specs.Sheet.Forest.{Forest, no_tree, tree, size, records_in}
use Rattle.leaves.specs.declared.sheet.records.Rec.{Rec}
use Rattle.leaves.specs.Sheet.Texts.{text_of}
use Rattle.leaves.specs.Report.Entries.{Entry, list_if, ◌⊕◌}
use Rattle.leaves.specs.Refusal.Groups.{parent_of_inlines, parent_of_label, parent_of_nothing, parent_group, other_group}
use Rattle.leaves.specs.Sheet.Classes.{is_break, is_plain_break, is_link}
use Rattle.inlines.specs.Single.{validate_siblings}
use Rattle.inlines.specs.Literal.{validate_text, validate_code_inline}
use Rattle.inlines.specs.Depth.{each_record, validate_one_line}
use Rattle.inlines.specs.Link.{validate_link_text}
use Rattle.inlines.specs.Content.{all_empty}
use Rattle.inlines.specs.Own.{validate_inline_values}
use Rattle.inlines.specs.Node.{validate_emphasis_container, validate_inline}
use Rattle.inlines.specs.Nodes.{validate_node, validate_inline_nodes_after}
use Rattle.setter.specs.Steps.{Frame, fresh, with_kid, opens, closes}
use Rattle.setter.specs.Machine.{frame_path, block_path}
use Rattle.setter.specs.Stops.{stop_of, stop_at}
use Rattle.setter.specs.Seen.{nearest, in_link, behind_break, only_empty}
use Rattle.setter.specs.Agrees.{Begins}
use Rattle.setter.specs.Stops.{beside, named}
use Rattle.setter.proofs.agrees.Flat.{walk, filled, pile}
use Rattle.setter.proofs.agrees.Fits.{Sub, sub-left, sub-right, sub-if, Clean, clean-none, clean-append, clean-if, clean-noise, Fits, fits-none, fits-map, still, one-stop, two-stops, alone, fits-alone, fits-tree, fits-leaf}
use Rattle.setter.proofs.agrees.KindCases.{rank, InlineKind, i31, i32, i33, i34, i35, i36, i37, i38, i39, i40, i41, i42, i43, i44, i45, i46, i47, i48, i49, i50, i51, i52, i53, Inliny, inliny, Extra, tag, attr, Extras, extras}
use Rattle.setter.proofs.agrees.Placed.{group_of, Stands, Placed, leaf, under-inlines, under-label}
use Rattle.setter.proofs.agrees.Noise.{clean-destination, clean-identifier, clean-escape, clean-math, clean-tag, clean-text-directive, clean-final}
use Rattle.setter.proofs.agrees.Context.{place_other, nearest-inline, empty-kids}
use Rattle.inlines.proofs.DepthLaws.{each-tree}

-- the nearest open record that is no inline holds one line
abbrev pub lined : List Frame → Bool
lined st = among (nearest st) (cell ∷ leaf_directive ∷ container_directive ∷ [])

-- what is listed of the inlines ts at path p: as children, and as the line or the link text that they are part of
pub record Shown (bytes : List ℕ) (es : List Entry) (p : List ℕ) (line link : Bool) (b : ℕ) (ts : Forest) : Type 0 where
  pub listed : Sub (validate_inline_nodes_after bytes p b ts) es
  pub lines : line ≡ true → (n : ℕ) × (beside 4 n ≡ true) × Sub (validate_one_line n p ts) es
  pub links : link ≡ true → Sub (validate_link_text p ts) es

pub record Spotless (bytes p : List ℕ) (line link : Bool) (b : ℕ) (ts : Forest) : Type 0 where
  pub listed : Clean (validate_inline_nodes_after bytes p b ts)
  pub lines : line ≡ true → (n : ℕ) → Clean (validate_one_line n p ts)
  pub links : link ≡ true → Clean (validate_link_text p ts)

-- of the link text: one inline
abbrev pub linked : List ℕ → Rec → Forest → List Entry
linked p r kids = if is_link r.kind then list_if true 42 r.span p else validate_link_text p kids

-- the same of one inline
pub record Shown₁ (bytes : List ℕ) (es : List Entry) (p : List ℕ) (line link : Bool) (b : ℕ) (r : Rec) (kids : Forest) : Type 0 where
  pub broken : Sub (list_if (is_break b && is_plain_break r.kind r.a) 37 r.span p) es
  pub own : Sub (validate_inline bytes p r kids) es
  pub under : Sub (validate_inline_nodes_after bytes p 0 kids) es
  pub lines : line ≡ true → (n : ℕ) × (beside 4 n ≡ true) × Sub (list_if (is_break r.kind) n r.span p) es × Sub (validate_one_line n p kids) es
  pub links : link ≡ true → Sub (linked p r kids) es

pub record Spotless₁ (bytes p : List ℕ) (line link : Bool) (b : ℕ) (r : Rec) (kids : Forest) : Type 0 where
  pub broken : Clean (list_if (is_break b && is_plain_break r.kind r.a) 37 r.span p)
  pub own : Clean (validate_inline bytes p r kids)
  pub under : Clean (validate_inline_nodes_after bytes p 0 kids)
  pub lines : line ≡ true → (n : ℕ) → Clean (list_if (is_break r.kind) n r.span p) × Clean (validate_one_line n p kids)
  pub links : link ≡ true → Clean (linked p r kids)

-- the lists of a tree and the trees after it
module _ (bytes : List ℕ) (r : Rec) (kids rest : Forest) (p : List ℕ) where
  pub nodes-in : is_inline r.kind ≡ true → (b : ℕ) → validate_inline_nodes_after bytes p b (tree r kids rest) ≡ ((list_if (is_break b && is_plain_break r.kind r.a) 37 r.span p ⊕ list_if (eqb b 36 && eqb r.kind 36) 38 r.span p) ⊕ (validate_inline bytes p r kids ⊕ validate_inline_nodes_after bytes p 0 kids)) ⊕ validate_inline_nodes_after bytes p r.kind rest
  unfolding validate_inline_nodes_after validate_node validate_siblings
  nodes-in h b = rw h

  pub line-in : (n : ℕ) → validate_one_line n p (tree r kids rest) ≡ list_if (is_break r.kind) n r.span p ⊕ (validate_one_line n p kids ⊕ validate_one_line n p rest)
  unfolding validate_one_line
  line-in n = each-tree _ r kids rest

  link-in : validate_link_text p (tree r kids rest) ≡ linked p r kids ⊕ validate_link_text p rest
  unfolding validate_link_text
  link-in = refl

  pub nodes-out : is_inline r.kind ≡ false → (b : ℕ) → validate_inline_nodes_after bytes p b (tree r kids rest) ≡ validate_inline_nodes_after bytes p b rest
  unfolding validate_inline_nodes_after validate_node ◌⊕◌
  nodes-out h b = rw h

  module _ (z : kids ≡ no_tree) where
    pub line-out : is_break r.kind ≡ false → (n : ℕ) → validate_one_line n p (tree r kids rest) ≡ validate_one_line n p rest
    unfolding validate_one_line each_record records_in list_if ◌⊕◌
    line-out h n = rw z (each-tree (λ x. list_if (is_break x.kind) n x.span p) r no_tree rest ∙ rw h)

    link-out : is_link r.kind ≡ false → validate_link_text p (tree r kids rest) ≡ validate_link_text p rest
    unfolding validate_link_text ◌⊕◌
    link-out h = rw (z, h)

module _ {bytes : List ℕ} {es : List Entry} {p : List ℕ} {line link : Bool} {b : ℕ} {r : Rec} {kids rest : Forest} where
  module _ (h : is_inline r.kind ≡ true) (s : Shown bytes es p line link b (tree r kids rest)) where
    shown-one : Shown₁ bytes es p line link b r kids
    shown-one =
        let l = sub-left _ (rw (nodes-in bytes r kids rest p h b) at s.listed) in
        record {
          broken = sub-left _ (sub-left _ l);
          own = sub-left _ (sub-right _ l);
          under = sub-right _ (sub-right _ l);
          lines = λ g. let t = s.lines g in let u = rw (line-in bytes r kids rest p t.0) at t.2 in (t.0, t.1, sub-left _ u, sub-left _ (sub-right _ u));
          links = λ g. sub-left _ (rw (link-in bytes r kids rest p) at (s.links g));
        }

    shown_rest : Shown bytes es p line link r.kind rest
    shown_rest =
        record {
          listed = sub-right _ (rw (nodes-in bytes r kids rest p h b) at s.listed);
          lines = λ g. let t = s.lines g in let u = rw (line-in bytes r kids rest p t.0) at t.2 in (t.0, t.1, sub-right _ (sub-right _ u));
          links = λ g. sub-right _ (rw (link-in bytes r kids rest p) at (s.links g));
        }

  shown-out : kids ≡ no_tree → Extras r.kind → Shown bytes es p line link b (tree r kids rest) → Shown bytes es p line link b rest
  shown-out z y s =
      record {
        listed = rw (nodes-out bytes r kids rest p y.no_inline b) at s.listed;
        lines = λ g. let t = s.lines g in (t.0, t.1, rw (line-out bytes r kids rest p z y.no_break t.0) at t.2);
        links = λ g. rw (link-out bytes r kids rest p z y.no_link) at (s.links g);
      }

module _ {bytes p : List ℕ} {line link : Bool} {b : ℕ} {r : Rec} {kids rest : Forest} where
  spotless-tree : is_inline r.kind ≡ true → Spotless₁ bytes p line link b r kids → Spotless bytes p line link r.kind rest → Spotless bytes p line link b (tree r kids rest)
  unfolding named
  spotless-tree h s t =
      record {
        listed = rw (nodes-in bytes r kids rest p h b) (clean-append (clean-append (clean-append s.broken (clean-noise _ 38 _ p refl)) (clean-append s.own s.under)) t.listed);
        lines = λ g n. rw (line-in bytes r kids rest p n) (clean-append (s.lines g n).0 (clean-append (s.lines g n).1 (t.lines g n)));
        links = λ g. rw (link-in bytes r kids rest p) (clean-append (s.links g) (t.links g));
      }

  spotless-out : kids ≡ no_tree → Extras r.kind → Spotless bytes p line link b rest → Spotless bytes p line link b (tree r kids rest)
  spotless-out z y t =
      record {
        listed = rw (nodes-out bytes r kids rest p y.no_inline b) t.listed;
        lines = λ g n. rw (line-out bytes r kids rest p z y.no_break n) (t.lines g n);
        links = λ g. rw (link-out bytes r kids rest p z y.no_link) (t.links g);
      }

-- what may stand among inlines
pub data InlineRoot (k : ℕ) : Type 0 where
  beforehand : Extra k → InlineRoot k
  node : InlineKind k → InlineRoot k

pub hold-inlines : (p : Rec) → group_of p ≡ parent_of_inlines → (k : ℕ) → Stands p k → InlineRoot k
hold-inlines p e k s = node (under-inlines p k s e)

pub hold-label : (p : Rec) → group_of p ≡ parent_of_label → (k : ℕ) → Stands p k → InlineRoot k
hold-label p e k s = ⊎_elim beforehand node (under-label p k s e)

-- the law of a forest of inlines, under any open records
abbrev pub Inlines : List ℕ → Forest → Type 0
Inlines bytes ts =
    (es : List Entry) (f : Frame) (st : List Frame) (i m b : ℕ) (p : List ℕ) → Begins (block_path (f ∷ st)) p → ((k : ℕ) → Stands f.of k → InlineRoot k) → Placed f.of m ts → is_break b ≡ behind_break f.kids → (m ≤ 0 → b ≡ 0)
    → Shown bytes es p (lined (f ∷ st)) (in_link (f ∷ st)) b ts → Fits bytes es (walk f st i ts) (Spotless bytes p (lined (f ∷ st)) (in_link (f ∷ st)) b ts)

-- no inline stands under a record that holds nothing
pub bare-nodes : (bytes p : List ℕ) (b : ℕ) (ts : Forest) → ts ≡ no_tree → Clean (validate_inline_nodes_after bytes p b ts)
unfolding validate_inline_nodes_after
bare-nodes bytes p b ts e = rw e clean-none

pub bare-line : (n : ℕ) (p : List ℕ) (ts : Forest) → ts ≡ no_tree → Clean (validate_one_line n p ts)
unfolding validate_one_line each_record records_in
bare-line n p ts e = rw e clean-none

bare-link : (p : List ℕ) (ts : Forest) → ts ≡ no_tree → Clean (validate_link_text p ts)
unfolding validate_link_text
bare-link p ts e = rw e clean-none

module _ (bytes : List ℕ) (es : List Entry) (f : Frame) (st : List Frame) (i b : ℕ) (p : List ℕ) (here : Begins (block_path (f ∷ st)) p) (r : Rec) (kids : Forest) (broke : is_break b ≡ behind_break f.kids) (placed : Placed r 0 kids) (s : Shown₁ bytes es p (lined (f ∷ st)) (in_link (f ∷ st)) b r kids) (y : Inliny r.kind) where
  abbrev Here : Type 0
  Here = Fits bytes es (alone f st i r kids) (Spotless₁ bytes p (lined (f ∷ st)) (in_link (f ∷ st)) b r kids)

  abbrev open₀ : ℕ
  open₀ = stop_of bytes (opens (fresh i r) (f ∷ st))

  abbrev close₀ : ℕ
  close₀ = stop_of bytes (closes (filled (fresh i r) (pile kids [])) (f ∷ st))

  abbrev own₀ : List Entry
  own₀ = validate_inline bytes p r kids

  at : (ks : List Rec) → Begins (block_path (filled (fresh i r) ks ∷ f ∷ st)) p
  at ks = rw (place_other (filled (fresh i r) ks) (f ∷ st) y.no_block) here

  -- an inline that is no break follows nothing wrongly
  unbroken : is_plain_break r.kind r.a ≡ false → Clean (list_if (is_break b && is_plain_break r.kind r.a) 37 r.span p)
  unbroken e = clean-if 37 _ p (ap (λ (x : Bool). is_break b && x) e ∙ go (is_break b))
    where
      go : (x : Bool) → (x && false) ≡ false
      go true = refl
      go false = refl

  -- the children of an inline: at the same path and on the same line
  inner : Inlines bytes kids → ((k : ℕ) → Stands r k → InlineRoot k) → (q : Bool) → in_link (fresh i r ∷ f ∷ st) ≡ q → Shown bytes es p (lined (f ∷ st)) q 0 kids → Fits bytes es (walk (fresh i r) (f ∷ st) (suc i) kids) (Spotless bytes p (lined (f ∷ st)) q 0 kids)
  inner ih a q e t =
      rw (nearest-inline (fresh i r) (f ∷ st) y.an_inline, e) at
      (ih es (fresh i r) (f ∷ st) (suc i) 0 0 p (at []) a placed refl (λ h. refl) (rw (nearest-inline (fresh i r) (f ∷ st) y.an_inline, e) t))

  -- the sorts of inlines, each with what is asked of its kind
  -- no stop, no child
  node-plain : group_of r ≡ parent_of_nothing → is_plain_break r.kind r.a ≡ false → is_break r.kind ≡ false → is_link r.kind ≡ false → open₀ ≡ 0 → close₀ ≡ 0 → Clean own₀ → Here
  node-plain bare np nb nl o c n =
      let z : kids ≡ no_tree = leaf r 0 kids placed bare in
      fits-map
      (λ x. record { broken = unbroken np; own = n; under = bare-nodes bytes p 0 kids z; lines = λ h n. (clean-if n _ p nb, bare-line n p kids z); links = λ h. rw nl (bare-link p kids z) })
      (fits-alone f st i r kids (still o) (fits-leaf _ _ _ _ z) (still c))

  -- a text or code: stop 13
  node-ending : (x : Bool) → group_of r ≡ parent_of_nothing → is_plain_break r.kind r.a ≡ false → is_break r.kind ≡ false → is_link r.kind ≡ false → open₀ ≡ (if x then 13 else 0) → close₀ ≡ 0 → (n : ℕ) → beside 13 n ≡ true → Sub (list_if x n r.span p) es → (x ≡ false → Clean own₀) → Here
  node-ending x bare np nb nl o c n g u v =
      let z : kids ≡ no_tree = leaf r 0 kids placed bare in
      fits-map
      (λ w. record { broken = unbroken np; own = v w.0; under = bare-nodes bytes p 0 kids z; lines = λ h n. (clean-if n _ p nb, bare-line n p kids z); links = λ h. rw nl (bare-link p kids z) })
      (fits-alone f st i r kids (one-stop x 12 o (λ h. sub-if n _ p u h g (at []))) (fits-leaf _ _ _ _ z) (still c))

  -- emphasis and its like: stop 10
  node-emphatic : Inlines bytes kids → group_of r ≡ parent_of_inlines → is_plain_break r.kind r.a ≡ false → is_break r.kind ≡ false → is_link r.kind ≡ false → in_link (fresh i r ∷ f ∷ st) ≡ in_link (f ∷ st) → open₀ ≡ 0 → close₀ ≡ (if only_empty (pile kids []) then 10 else 0) → own₀ ≡ validate_emphasis_container bytes p r.span r.kind r.a kids → Here
  unfolding beside named validate_emphasis_container
  node-emphatic ih a np nb nl k o c n =
      let l = rw n at s.own in
      let same : only_empty (pile kids []) ≡ all_empty kids = empty-kids r kids a placed in
      fits-map
      (λ w.
      record {
        broken = unbroken np;
        own = rw n (clean-append (clean-if 39 _ p (sym same ∙ w.2)) (clean-append (clean-noise _ 40 _ p refl) (clean-append (clean-noise _ 41 _ p refl) (clean-final p kids))));
        under = w.1.listed;
        lines = λ h n. (clean-if n _ p nb, w.1.lines h n);
        links = λ h. rw nl (w.1.links h);
      })
      (fits-alone f st i r kids
      (still o)
      (inner ih (hold-inlines r a) (in_link (f ∷ st)) k
      (record { listed = s.under; lines = λ h. let t = s.lines h in (t.0, t.1, t.3); links = λ h. rw nl at (s.links h) }))
      (one-stop (only_empty (pile kids [])) 9 c (λ h. sub-if 39 _ p (sub-left _ l) (sym same ∙ h) refl (at (pile kids [])))))

  -- images, notes, text directives: no stop of their own
  node_through : Inlines bytes kids → ((k : ℕ) → Stands r k → InlineRoot k) → is_plain_break r.kind r.a ≡ false → is_break r.kind ≡ false → is_link r.kind ≡ false → in_link (fresh i r ∷ f ∷ st) ≡ in_link (f ∷ st) → open₀ ≡ 0 → close₀ ≡ 0 → Clean own₀ → Here
  node_through ih a np nb nl k o c n =
      fits-map
      (λ w. record { broken = unbroken np; own = n; under = w.1.listed; lines = λ h n. (clean-if n _ p nb, w.1.lines h n); links = λ h. rw nl (w.1.links h) })
      (fits-alone f st i r kids
      (still o)
      (inner ih a (in_link (f ∷ st)) k
      (record { listed = s.under; lines = λ h. let t = s.lines h in (t.0, t.1, t.3); links = λ h. rw nl at (s.links h) }))
      (still c))

  -- links that hold inlines: stop 5
  node-link : Inlines bytes kids → group_of r ≡ parent_of_inlines → is_plain_break r.kind r.a ≡ false → is_break r.kind ≡ false → is_link r.kind ≡ true → in_link (fresh i r ∷ f ∷ st) ≡ true → open₀ ≡ (if in_link (f ∷ st) then 5 else 0) → close₀ ≡ 0 → (x : List Entry) → Clean x → own₀ ≡ x ⊕ validate_link_text p kids → Here
  unfolding beside
  node-link ih a np nb nl k o c x cx n =
      let l = rw n at s.own in
      fits-map
      (λ w.
      record {
        broken = unbroken np;
        own = rw n (clean-append cx (w.1.links refl));
        under = w.1.listed;
        lines = λ h n. (clean-if n _ p nb, w.1.lines h n);
        links = λ h. absurd (true≢false (sym h ∙ w.0));
      })
      (fits-alone f st i r kids
      (one-stop (in_link (f ∷ st)) 4 o (λ h. sub-if 42 r.span p (rw nl at (s.links h)) refl refl (at [])))
      (inner ih (hold-inlines r a) true k
      (record { listed = s.under; lines = λ h. let t = s.lines h in (t.0, t.1, t.3); links = λ h. sub-right _ l }))
      (still c))

  -- links that hold nothing: stop 5
  node-auto : group_of r ≡ parent_of_nothing → is_plain_break r.kind r.a ≡ false → is_break r.kind ≡ false → is_link r.kind ≡ true → open₀ ≡ (if in_link (f ∷ st) then 5 else 0) → close₀ ≡ 0 → Clean own₀ → Here
  unfolding beside
  node-auto bare np nb nl o c n =
      let z : kids ≡ no_tree = leaf r 0 kids placed bare in
      fits-map
      (λ w. record { broken = unbroken np; own = n; under = bare-nodes bytes p 0 kids z; lines = λ h n. (clean-if n _ p nb, bare-line n p kids z); links = λ h. absurd (true≢false (sym h ∙ w.0)) })
      (fits-alone f st i r kids (one-stop (in_link (f ∷ st)) 4 o (λ h. sub-if 42 r.span p (rw nl at (s.links h)) refl refl (at []))) (fits-leaf _ _ _ _ z) (still c))

  -- breaks: stops 4 and 11
  node-break : group_of r ≡ parent_of_nothing → is_break r.kind ≡ true → is_link r.kind ≡ false → open₀ ≡ (if lined (f ∷ st) then 4 else if is_plain_break r.kind r.a && behind_break f.kids then 11 else 0) → close₀ ≡ 0 → Clean own₀ → Here
  unfolding beside
  node-break bare ib nl o c n =
      let z : kids ≡ no_tree = leaf r 0 kids placed bare in
      let same : (is_break b && is_plain_break r.kind r.a) ≡ (is_plain_break r.kind r.a && behind_break f.kids) = ap (λ (x : Bool). x && is_plain_break r.kind r.a) broke ∙ and_comm (behind_break f.kids) (is_plain_break r.kind r.a) in
      fits-map
      (λ w. record { broken = clean-if 37 _ p (same ∙ w.0.1); own = n; under = bare-nodes bytes p 0 kids z; lines = λ h n. absurd (true≢false (sym h ∙ w.0.0)); links = λ h. rw nl (bare-link p kids z) })
      (fits-alone f st i r kids
      (two-stops (lined (f ∷ st)) (is_plain_break r.kind r.a && behind_break f.kids) 3 10 o
      (λ h. let t = s.lines h in sub-if t.0 _ p t.2 ib t.1 (at []))
      (λ h. sub-if 37 _ p s.broken (same ∙ h) refl (at [])))
      (fits-leaf _ _ _ _ z)
      (still c))

  pub node-fits : Inlines bytes kids → InlineKind r.kind → Here
  unfolding stop_of stop_at validate_inline validate_inline_values validate_text validate_code_inline group_of parent_group other_group in_link beside named
  node-fits ih (i31 e) = node-ending (holds_line_ending (text_of bytes r.first)) (rw e) (rw e) (rw e) (rw e) (rw e) (rw e) 31 refl (rw e at s.own) (λ h. rw e (clean-if 31 _ p h))
  node-fits ih (i32 e) = node-plain (rw e) (rw e) (rw e) (rw e) (rw e) (rw e) (rw e (clean-escape bytes p r.span r.a))
  node-fits ih (i33 e) = node-plain (rw e) (rw e) (rw e) (rw e) (rw e) (rw e) (rw e clean-none)
  node-fits ih (i34 e) = node-emphatic ih (rw e) (rw e) (rw e) (rw e) (rw e) (rw e) (rw e) (rw e)
  node-fits ih (i35 e) = node-emphatic ih (rw e) (rw e) (rw e) (rw e) (rw e) (rw e) (rw e) (rw e)
  node-fits ih (i36 e) = node-emphatic ih (rw e) (rw e) (rw e) (rw e) (rw e) (rw e) (rw e) (rw e)
  node-fits ih (i37 e) = node-emphatic ih (rw e) (rw e) (rw e) (rw e) (rw e) (rw e) (rw e) (rw e)
  node-fits ih (i38 e) = node-plain (rw e) (rw e) (rw e) (rw e) (rw e) (rw e) (rw e clean-none)
  node-fits ih (i39 e) = node-ending (holds_line_ending (text_of bytes r.first)) (rw e) (rw e) (rw e) (rw e) (rw e) (rw e) 45 refl (sub-right _ (rw e at s.own)) (λ h. rw e (clean-append (clean-noise _ 44 _ p refl) (clean-if 45 _ p h)))
  node-fits ih (i40 e) = node-link ih (rw e) (rw e) (rw e) (rw e) (rw e) (rw e) (rw e) _ (clean-destination bytes p r.span r.a r.first) (rw e)
  node-fits ih (i41 e) = node-auto (rw e) (rw e) (rw e) (rw e) (rw e) (rw e) (rw e clean-none)
  node-fits ih (i42 e) = node_through ih (hold-inlines r (rw e)) (rw e) (rw e) (rw e) (rw e) (rw e) (rw e) (rw e (clean-destination bytes p r.span r.a r.first))
  node-fits ih (i43 e) = node-link ih (rw e) (rw e) (rw e) (rw e) (rw e) (rw e) (rw e) _ (clean-identifier bytes p r.span 32 r.first refl) (rw e)
  node-fits ih (i44 e) = node_through ih (hold-inlines r (rw e)) (rw e) (rw e) (rw e) (rw e) (rw e) (rw e) (rw e (clean-identifier bytes p r.span 33 r.first refl))
  node-fits ih (i45 e) = node-plain (rw e) (rw e) (rw e) (rw e) (rw e) (rw e) (rw e clean-none)
  node-fits ih (i46 e) = node-break (rw e) (rw e) (rw e) (rw e) (rw e) (rw e clean-none)
  node-fits ih (i47 e) = node-break (rw e) (rw e) (rw e) (rw e) (rw e) (rw e clean-none)
  node-fits ih (i48 e) = node-plain (rw e) (rw e) (rw e) (rw e) (rw e) (rw e) (rw e (clean-math bytes p r.span r.a r.b r.first))
  node-fits ih (i49 e) = node-plain (rw e) (rw e) (rw e) (rw e) (rw e) (rw e) (rw e (clean-identifier bytes p r.span 34 r.first refl))
  node-fits ih (i50 e) = node_through ih (hold-inlines r (rw e)) (rw e) (rw e) (rw e) (rw e) (rw e) (rw e) (rw e (clean-noise _ 35 r.span p refl))
  node-fits ih (i51 e) = node-auto (rw e) (rw e) (rw e) (rw e) (rw e) (rw e) (rw e (clean-identifier bytes p r.span 36 r.first refl))
  node-fits ih (i52 e) = node_through ih (hold-label r (rw e)) (rw e) (rw e) (rw e) (rw e) (rw e) (rw e) (rw e (clean-text-directive bytes p r.span r.first kids))
  node-fits ih (i53 e) = node-plain (rw e) (rw e) (rw e) (rw e) (rw e) (rw e) (rw e (clean-tag bytes p r.span r.first))

-- a tag or an attribute
pub extra-leaf : (r : Rec) (kids : Forest) → Placed r 0 kids → Extra r.kind → kids ≡ no_tree
unfolding group_of parent_group other_group
extra-leaf r kids placed (tag e) = leaf r 0 kids placed (rw e)
extra-leaf r kids placed (attr e) = leaf r 0 kids placed (rw e)

pub extra-fits : (bytes : List ℕ) (es : List Entry) (f : Frame) (st : List Frame) (i : ℕ) (r : Rec) (kids : Forest) → Placed r 0 kids → Extra r.kind → Fits bytes es (alone f st i r kids) (Unit {0})
unfolding stop_of stop_at
extra-fits bytes es f st i r kids placed (tag e) = fits-map (λ x. tt) (fits-alone f st i r kids (still (rw e)) (fits-leaf _ _ _ _ (extra-leaf r kids placed (tag e))) (still (rw e)))
extra-fits bytes es f st i r kids placed (attr e) = fits-map (λ x. tt) (fits-alone f st i r kids (still (rw e)) (fits-leaf _ _ _ _ (extra-leaf r kids placed (attr e))) (still (rw e)))

-- a tree and the trees after it
module _ (bytes : List ℕ) (es : List Entry) (f : Frame) (st : List Frame) (i m b : ℕ) (p : List ℕ) (here : Begins (block_path (f ∷ st)) p) (r : Rec) (kids rest : Forest) (ih : Inlines bytes kids) (ihr : Inlines bytes rest) (holder : (k : ℕ) → Stands f.of k → InlineRoot k) (placed : Placed f.of m (tree r kids rest)) (broke : is_break b ≡ behind_break f.kids) (start : m ≤ 0 → b ≡ 0) (s : Shown bytes es p (lined (f ∷ st)) (in_link (f ∷ st)) b (tree r kids rest)) where
  inline-tree : InlineRoot r.kind → Fits bytes es (walk f st i (tree r kids rest)) (Spotless bytes p (lined (f ∷ st)) (in_link (f ∷ st)) b (tree r kids rest))
  unfolding Placed frame_path block_path nearest in_link
  inline-tree (node kd) =
      let y : Inliny r.kind = inliny r.kind kd in
      fits-map (λ c. spotless-tree y.an_inline c.0 c.1)
      (fits-tree f st i r kids rest
      (node-fits bytes es f st i b p here r kids broke placed.2 (shown-one y.an_inline s) y ih kd)
      (ihr es (with_kid r f) st (suc i + size kids) (rank r.kind) r.kind p here holder placed.3 refl (λ h. absurd (let z : rank r.kind ≡ 1 = y.is_second in omega arith)) (shown_rest y.an_inline s)))
  inline-tree (beforehand x) =
      let y : Extras r.kind = extras r.kind x in
      let low : m ≤ 0 = rw y.is_first at placed.1 in
      let z : kids ≡ no_tree = extra-leaf r kids placed.2 x in
      fits-map (λ c. spotless-out z y c.1)
      (fits-tree f st i r kids rest
      (extra-fits bytes es f st i r kids placed.2 x)
      (ihr es (with_kid r f) st (suc i + size kids) (rank r.kind) b p here holder placed.3 (rw (start low, y.no_break)) (λ h. start low) (shown-out z y s)))

pub inlines-fit : (bytes : List ℕ) (ts : Forest) → Inlines bytes ts
unfolding Placed walk
inlines-fit bytes no_tree es f st i m b p here holder placed broke start s = fits-map (λ c. record { listed = bare-nodes bytes p b no_tree refl; lines = λ h n. bare-line n p no_tree refl; links = λ h. bare-link p no_tree refl }) fits-none
inlines-fit bytes (tree r kids rest) es f st i m b p here holder placed broke start s =
    inline-tree bytes es f st i m b p here r kids rest (inlines-fit bytes kids) (inlines-fit bytes rest) holder placed broke start s (holder r.kind placed.0)

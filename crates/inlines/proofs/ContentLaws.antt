-- What the definitions of `Content` say tree by tree; and what was gathered is what they ask.
use mathlib.Core.Path.{◌≡◌, refl, ap, sym, ◌∙◌}
use mathlib.Core.Bool.{Bool, true, false, cond, not, ◌&&◌, ◌||◌, and_assoc, and-true, and-false, or-true, or-false, not-not}
use mathlib.Core.List.{List, [], ◌∷◌, map, get_last_d, head_d}
use Prim.Native.Nat.{ℕ}
use lib.Dec.{eqb}
use Rattle.std.specs.Prelude.{filter, if◌then◌else◌}
use Rattle.std.specs.List.{list_all}
use Rattle.leaves.specs.Text.Over.{is_empty_list}
use Rattle.leaves.specs.Sheet.Kinds.{is_inline, line_break}
use Rattle.leaves.specs.Sheet.Forest.{Forest, no_tree, tree}
use Rattle.leaves.specs.Report.Entries.{Entry, list_if}
use Rattle.leaves.specs.declared.sheet.records.Rec.{Rec}
use Rattle.inlines.specs.ContentGathered.{no_content, with_inline, content_after, content_of, break_entry}
use Rattle.inlines.specs.Content.{inlines_of, no_inline, all_empty, without_empty_texts, starts_with_whitespace, ends_with_whitespace, is_one_joined, holds_joined, break_entries, final_break}
use Rattle.leaves.specs.Sheet.Empty.{is_empty_text}
use Rattle.inlines.specs.Values.{starts_white, ends_white}
use Rattle.leaves.specs.Sheet.Classes.{is_joined}
use Rattle.inlines.specs.declared.content.Content.{Content}
use Rattle.leaves.proofs.text.LastLaws.{last-cons}

-- ---- the definitions of `Content` at no tree, and at a tree and those behind it
module _ (r : Rec) (kids rest : Forest) where
  pub no_inline-tree : no_inline (tree r kids rest) ≡ (not (is_inline r.kind) && no_inline rest)
  unfolding no_inline inlines_of is_empty_list
  no_inline-tree = go (is_inline r.kind)
    where
      go : (t : Bool) → is_empty_list (if t then r ∷ inlines_of rest else inlines_of rest) ≡ (not t && is_empty_list (inlines_of rest))
      go true = refl
      go false = refl

  pub all_empty-tree : all_empty (tree r kids rest) ≡ ((not (is_inline r.kind) || is_empty_text r) && all_empty rest)
  unfolding all_empty inlines_of
  all_empty-tree = go (is_inline r.kind)
    where
      go : (t : Bool) → list_all is_empty_text (if t then r ∷ inlines_of rest else inlines_of rest) ≡ ((not t || is_empty_text r) && list_all is_empty_text (inlines_of rest))
      go true = refl
      go false = refl

  without-tree : without_empty_texts (tree r kids rest) ≡ (if not (is_inline r.kind) || is_empty_text r then without_empty_texts rest else r ∷ without_empty_texts rest)
  unfolding without_empty_texts inlines_of
  without-tree = go (is_inline r.kind)
    where
      none_empty : List Rec → List Rec
      none_empty rs = filter (λ x. not (is_empty_text x)) rs

      keep : (t : Bool) → cond (not t) (r ∷ none_empty (inlines_of rest)) (none_empty (inlines_of rest)) ≡ (if t then none_empty (inlines_of rest) else r ∷ none_empty (inlines_of rest))
      keep true = refl
      keep false = refl

      go : (t : Bool) → none_empty (if t then r ∷ inlines_of rest else inlines_of rest) ≡ (if not t || is_empty_text r then none_empty (inlines_of rest) else r ∷ none_empty (inlines_of rest))
      go true = keep (is_empty_text r)
      go false = refl

  starts-tree : (bytes : List ℕ) → starts_with_whitespace bytes (tree r kids rest) ≡ (if not (is_inline r.kind) || is_empty_text r then starts_with_whitespace bytes rest else starts_white bytes r)
  unfolding starts_with_whitespace head_d
  starts-tree bytes = ap (λ rs. head_d (map (starts_white bytes) rs) false) without-tree ∙ go (not (is_inline r.kind) || is_empty_text r)
    where
      go : (t : Bool) → head_d (map (starts_white bytes) (if t then without_empty_texts rest else r ∷ without_empty_texts rest)) false ≡ (if t then head_d (map (starts_white bytes) (without_empty_texts rest)) false else starts_white bytes r)
      go true = refl
      go false = refl

  -- `last` is the answer for the inlines before these trees
  ends-tree : (bytes : List ℕ) (last : Bool) → get_last_d (map (ends_white bytes) (without_empty_texts (tree r kids rest))) last ≡ get_last_d (map (ends_white bytes) (without_empty_texts rest)) (if not (is_inline r.kind) || is_empty_text r then last else ends_white bytes r)
  ends-tree bytes last = ap (λ rs. get_last_d (map (ends_white bytes) rs) last) without-tree ∙ go (not (is_inline r.kind) || is_empty_text r)
    where
      go : (t : Bool) → get_last_d (map (ends_white bytes) (if t then without_empty_texts rest else r ∷ without_empty_texts rest)) last ≡ get_last_d (map (ends_white bytes) (without_empty_texts rest)) (if t then last else ends_white bytes r)
      go true = refl
      go false = last-cons _ _ _

  joined-tree : (outer a : ℕ) → holds_joined outer a (tree r kids rest) ≡ (if is_inline r.kind then is_joined outer a r.kind r.a && no_inline rest else holds_joined outer a rest)
  unfolding holds_joined is_one_joined no_inline inlines_of
  joined-tree outer a = go (is_inline r.kind)
    where
      go : (t : Bool) → is_one_joined outer a (if t then r ∷ inlines_of rest else inlines_of rest) ≡ (if t then is_joined outer a r.kind r.a && is_empty_list (inlines_of rest) else is_one_joined outer a (inlines_of rest))
      go true = refl
      go false = refl

  -- `last` is the list for the inlines before these trees
  pub last-tree : (path : List ℕ) (last : List Entry) → get_last_d (map (break_entries path) (inlines_of (tree r kids rest))) last ≡ get_last_d (map (break_entries path) (inlines_of rest)) (if is_inline r.kind then break_entries path r else last)
  unfolding inlines_of
  last-tree path last = go (is_inline r.kind)
    where
      go : (t : Bool) → get_last_d (map (break_entries path) (if t then r ∷ inlines_of rest else inlines_of rest)) last ≡ get_last_d (map (break_entries path) (inlines_of rest)) (if t then break_entries path r else last)
      go true = last-cons _ _ _
      go false = refl

  -- the inline is the last where none is behind it
  pub final_break-tree : (path : List ℕ) → final_break path (tree r kids rest) ≡ (if is_inline r.kind && no_inline rest then break_entries path r else final_break path rest)
  unfolding final_break no_inline is_empty_list get_last_d
  final_break-tree path = last-tree path [] ∙ go (is_inline r.kind) (inlines_of rest)
    where
      go : (t : Bool) (rs : List Rec) → get_last_d (map (break_entries path) rs) (if t then break_entries path r else []) ≡ (if t && is_empty_list rs then break_entries path r else get_last_d (map (break_entries path) rs) [])
      go true [] = refl
      go true (x ∷ xs) = refl
      go false rs = refl

no_inline-none : no_inline no_tree ≡ true
unfolding no_inline inlines_of is_empty_list
no_inline-none = refl

pub all_empty-none : all_empty no_tree ≡ true
unfolding all_empty inlines_of
all_empty-none = refl

starts-none : (bytes : List ℕ) → starts_with_whitespace bytes no_tree ≡ false
unfolding starts_with_whitespace without_empty_texts inlines_of head_d
starts-none bytes = refl

ends-none : (bytes : List ℕ) (last : Bool) → get_last_d (map (ends_white bytes) (without_empty_texts no_tree)) last ≡ last
unfolding without_empty_texts inlines_of get_last_d
ends-none bytes last = refl

joined-none : (outer a : ℕ) → holds_joined outer a no_tree ≡ false
unfolding holds_joined is_one_joined inlines_of
joined-none outer a = refl

pub last-none : (path : List ℕ) (last : List Entry) → get_last_d (map (break_entries path) (inlines_of no_tree)) last ≡ last
unfolding inlines_of get_last_d
last-none path last = refl

pub final_break-none : (path : List ℕ) → final_break path no_tree ≡ []
unfolding final_break inlines_of get_last_d
final_break-none path = refl

-- ---- the first inline that is no empty text: the test of it counts, and none after it
starts-now : (s e w x : Bool) → (s || e && not false && w || e && false && x) ≡ (s || e && w)
starts-now s true w x = or-false (s || w)
starts-now s false w x = or-false (s || false)

-- ---- what was gathered of the trees, field by field
module _ (bytes : List ℕ) (outer a : ℕ) where
  after-some : (c : Content) (f : Forest) → (content_after bytes outer a c f).some ≡ (c.some || not (no_inline f))
  unfolding content_after with_inline
  after-some c no_tree = rw no_inline-none (sym (or-false c.some))
  after-some c (tree r kids rest) = after-some (with_inline bytes outer a c r) rest ∙ rw (no_inline-tree r kids rest) (go (is_inline r.kind) refl)
    where
      go : (t : Bool) → is_inline r.kind ≡ t → ((with_inline bytes outer a c r).some || not (no_inline rest)) ≡ (c.some || not (not (is_inline r.kind) && no_inline rest))
      go true e = rw e (sym (or-true c.some))
      go false e = rw e

  after-empty : (c : Content) (f : Forest) → (content_after bytes outer a c f).empty ≡ (c.empty && all_empty f)
  unfolding content_after with_inline
  after-empty c no_tree = rw all_empty-none (sym (and-true c.empty))
  after-empty c (tree r kids rest) = after-empty (with_inline bytes outer a c r) rest ∙ rw (all_empty-tree r kids rest) (go (is_inline r.kind) refl)
    where
      go : (t : Bool) → is_inline r.kind ≡ t → ((with_inline bytes outer a c r).empty && all_empty rest) ≡ (c.empty && ((not (is_inline r.kind) || is_empty_text r) && all_empty rest))
      go true e = rw e (and_assoc c.empty (is_empty_text r) (all_empty rest))
      go false e = rw e

  after-starts : (c : Content) (f : Forest) → (content_after bytes outer a c f).starts ≡ (c.starts || c.empty && starts_with_whitespace bytes f)
  unfolding content_after with_inline
  after-starts c no_tree = rw (starts-none bytes, and-false c.empty) (sym (or-false c.starts))
  after-starts c (tree r kids rest) = after-starts (with_inline bytes outer a c r) rest ∙ rw (starts-tree r kids rest bytes) (go (is_inline r.kind) refl (is_empty_text r) refl)
    where
      go : (t : Bool) → is_inline r.kind ≡ t → (m : Bool) → is_empty_text r ≡ m → ((with_inline bytes outer a c r).starts || (with_inline bytes outer a c r).empty && starts_with_whitespace bytes rest) ≡ (c.starts || c.empty && (if not (is_inline r.kind) || is_empty_text r then starts_with_whitespace bytes rest else starts_white bytes r))
      go true e true m = rw (e, m, and-true c.empty, and-false c.empty, or-false c.starts)
      go true e false m = rw (e, m) (starts-now c.starts c.empty (starts_white bytes r) (starts_with_whitespace bytes rest))
      go false e _ m = rw e

  after-ends : (c : Content) (f : Forest) → (content_after bytes outer a c f).ends ≡ get_last_d (map (ends_white bytes) (without_empty_texts f)) c.ends
  unfolding content_after with_inline
  after-ends c no_tree = sym (ends-none bytes c.ends)
  after-ends c (tree r kids rest) = after-ends (with_inline bytes outer a c r) rest ∙ ap (λ b. get_last_d (map (ends_white bytes) (without_empty_texts rest)) b) (go (is_inline r.kind) refl) ∙ sym (ends-tree r kids rest bytes c.ends)
    where
      go : (t : Bool) → is_inline r.kind ≡ t → (with_inline bytes outer a c r).ends ≡ (if not (is_inline r.kind) || is_empty_text r then c.ends else ends_white bytes r)
      go true e = rw e
      go false e = rw e

  after-joined : (c : Content) (f : Forest) → (content_after bytes outer a c f).joined ≡ (c.joined && no_inline f || not c.some && holds_joined outer a f)
  unfolding content_after with_inline
  after-joined c no_tree = rw (no_inline-none, joined-none outer a, and-true c.joined, and-false (not c.some)) (sym (or-false c.joined))
  after-joined c (tree r kids rest) = after-joined (with_inline bytes outer a c r) rest ∙ rw (no_inline-tree r kids rest, joined-tree r kids rest outer a) (go (is_inline r.kind) refl)
    where
      go : (t : Bool) → is_inline r.kind ≡ t → ((with_inline bytes outer a c r).joined && no_inline rest || not (with_inline bytes outer a c r).some && holds_joined outer a rest) ≡ (c.joined && (not (is_inline r.kind) && no_inline rest) || not c.some && (if is_inline r.kind then is_joined outer a r.kind r.a && no_inline rest else holds_joined outer a rest))
      go true e = rw (e, and-false c.joined) (or-false _ ∙ and_assoc (not c.some) (is_joined outer a r.kind r.a) (no_inline rest))
      go false e = rw e

  after_last : (path : List ℕ) (c : Content) (f : Forest) → break_entry path (content_after bytes outer a c f).last_break ≡ get_last_d (map (break_entries path) (inlines_of f)) (break_entry path c.last_break)
  unfolding content_after with_inline break_entry break_entries list_if
  after_last path c no_tree = sym (last-none path (break_entry path c.last_break))
  after_last path c (tree r kids rest) = after_last path (with_inline bytes outer a c r) rest ∙ ap (λ es. get_last_d (map (break_entries path) (inlines_of rest)) es) (go (is_inline r.kind) refl (eqb r.kind line_break) refl) ∙ sym (last-tree r kids rest path (break_entry path c.last_break))
    where
      go : (t : Bool) → is_inline r.kind ≡ t → (m : Bool) → eqb r.kind line_break ≡ m → break_entry path (with_inline bytes outer a c r).last_break ≡ (if is_inline r.kind then break_entries path r else break_entry path c.last_break)
      go true e true m = rw (e, m)
      go true e false m = rw (e, m)
      go false e _ m = rw e

  module _ (f : Forest) {c : Content} (is : c ≡ content_of bytes outer a f) where
    pub says_none : not c.some ≡ no_inline f
    unfolding content_of
    says_none = rw (is, after-some no_content f) (not-not (no_inline f))

    pub says-empty : c.empty ≡ all_empty f
    unfolding content_of
    says-empty = rw is (after-empty no_content f)

    pub says-starts : c.starts ≡ starts_with_whitespace bytes f
    unfolding content_of
    says-starts = rw is (after-starts no_content f)

    pub says-ends : c.ends ≡ ends_with_whitespace bytes f
    unfolding content_of ends_with_whitespace
    says-ends = rw is (after-ends no_content f)

    pub says-joined : c.joined ≡ holds_joined outer a f
    unfolding content_of
    says-joined = rw is (after-joined no_content f)

    pub says_last : (path : List ℕ) → break_entry path c.last_break ≡ final_break path f
    unfolding content_of final_break break_entry
    says_last path = rw is (after_last path no_content f)

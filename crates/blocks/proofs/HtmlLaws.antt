-- The tags of an HTML container: one law for each way through a function of `html`.
use mathlib.Core.Path.{◌≡◌, refl, sym, ap, ◌∙◌}
use mathlib.Core.Bool.{Bool, not}
use mathlib.Core.List.{List, [], ◌∷◌}
use Prim.Native.Nat.{ℕ}
use Rattle.leaves.specs.Text.Same.{same_bytes}
use Rattle.leaves.specs.Sheet.Texts.{text_of}
use Rattle.leaves.specs.declared.sheet.records.Rec.{Rec}
use Rattle.leaves.specs.declared.sheet.records.Span.{Span}
use Rattle.leaves.specs.Report.Rules
use Rattle.leaves.specs.Sheet.Empty.{is_empty}
use Rattle.blocks.specs.Html.{validate_tag_pair, validate_tags}
use Rattle.leaves.specs.Sheet.Forest.{Forest, no_tree, tree}
use Rattle.leaves.specs.Sheet.Roots.{roots}
use Rattle.leaves.specs.Report.Entries.{Entry, list_if}
use Rattle.leaves.specs.Report.Listed.{path_of, Adds}
use Rattle.leaves.specs.declared.report.entries.Report.{Report}
use Rattle.leaves.proofs.report.ListedLaws.{adds-none, adds-then}

pub tags-law : (bytes : List ℕ) (span : Span) (opening closing : Rec) {m n : List ℕ} {a b q c d : Bool} {x y z f g h : Report} → a ≡ is_empty opening.first → Adds x y (list_if a Rules.empty_opening_name opening.span (path_of x)) → b ≡ is_empty closing.first → Adds y z (list_if b Rules.empty_closing_name closing.span (path_of y)) → m ≡ text_of bytes opening.first → n ≡ text_of bytes closing.first → q ≡ same_bytes m n → Adds z f (list_if (not q) Rules.tag_names_differ span (path_of z)) → c ≡ is_empty opening.second → Adds f g (list_if c Rules.empty_opening_source opening.span (path_of f)) → d ≡ is_empty closing.second → Adds g h (list_if d Rules.empty_closing_source closing.span (path_of g)) → Adds x h (validate_tag_pair bytes (path_of x) span opening closing)
unfolding validate_tag_pair
tags-law bytes span opening closing e1 l1 e2 l2 m n e3 l3 e4 l4 e5 l5 =
    adds-then
    (rw e1 at l1)
    (adds-then (rw (e2, l1.path) at l2) (adds-then (rw (e3, m, n, l2.path, l1.path) at l3) (adds-then (rw (e4, l3.path, l2.path, l1.path) at l4) (rw (e5, l4.path, l3.path, l2.path, l1.path) at l5))))

-- by the trees that an iterator gives
abbrev tags-of : List ℕ → List ℕ → Span → List (Rec × Forest) → List Entry
tags-of bytes path span [] = []
tags-of bytes path span (o ∷ []) = []
tags-of bytes path span (o ∷ c ∷ ts) = validate_tag_pair bytes path span o.0 c.0

tags-roots : (bytes path : List ℕ) (span : Span) (f : Forest) → tags-of bytes path span (roots f) ≡ validate_tags bytes path span f
unfolding roots validate_tags
tags-roots bytes path span no_tree = refl
tags-roots bytes path span (tree o kids no_tree) = refl
tags-roots bytes path span (tree o kids (tree c under rest)) = refl

module _ (bytes path : List ℕ) (span : Span) (f : Forest) where
  pub html-none : {x : Report} → roots f ≡ [] → Adds x x (validate_tags bytes path span f)
  html-none e = let t : validate_tags bytes path span f ≡ [] = sym (tags-roots bytes path span f) ∙ ap (tags-of bytes path span) e in rw t adds-none

  module _ {o : Rec} {kids : Forest} {ts : List (Rec × Forest)} (e : roots f ≡ (o, kids) ∷ ts) where
    html-first : validate_tags bytes path span f ≡ tags-of bytes path span ((o, kids) ∷ ts)
    html-first = sym (tags-roots bytes path span f) ∙ ap (tags-of bytes path span) e

    pub html-one : {x : Report} → ts ≡ [] → Adds x x (validate_tags bytes path span f)
    html-one n = let t : validate_tags bytes path span f ≡ [] = html-first ∙ ap (λ us. tags-of bytes path span ((o, kids) ∷ us)) n in rw t adds-none

    pub html-two : {c : Rec} {under : Forest} {us : List (Rec × Forest)} {x y : Report} → ts ≡ (c, under) ∷ us → Adds x y (validate_tag_pair bytes path span o c) → Adds x y (validate_tags bytes path span f)
    html-two {c} n l = let t : validate_tags bytes path span f ≡ validate_tag_pair bytes path span o c = html-first ∙ ap (λ us. tags-of bytes path span ((o, kids) ∷ us)) n in rw t l

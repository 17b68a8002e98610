-- Classes of inlines, by kind and, for breaks and emphasis, by A.
use Rattle.std.specs.Prelude.{ℕ, Bool, ◌&&◌, ◌||◌, [], ◌∷◌, eqb}
use Rattle.leaves.specs.Sheet.Kinds.{among, emphasis, strong, delete, mark, code, link, autolink}
use Rattle.leaves.specs.Sheet.Kinds.{link_reference, image_reference, html, soft_break, line_break, math}
use Rattle.leaves.specs.Sheet.Kinds.{footnote_reference, wiki_link}

-- `Inline::SoftBreak(_) | Inline::LineBreak(_)`
abbrev pub is_break : ℕ → Bool
is_break kind = among kind (soft_break ∷ line_break ∷ [])

-- `Inline::SoftBreak(_)`, or a line break whose kind is `LineBreakKind::Spaces` (A is 1)
abbrev pub is_plain_break : ℕ → ℕ → Bool
is_plain_break kind a = eqb kind soft_break || eqb kind line_break && eqb a 1

-- `Inline::Emphasis(_) | Inline::Strong(_) | Inline::Delete(_) | Inline::Mark(_)`
abbrev pub is_emphasis_container : ℕ → Bool
is_emphasis_container kind = among kind (emphasis ∷ strong ∷ delete ∷ mark ∷ [])

-- `Inline::Link(_) | Inline::Autolink(_) | Inline::LinkReference(_) | Inline::WikiLink(_)`
abbrev pub is_link : ℕ → Bool
is_link kind = among kind (link ∷ autolink ∷ link_reference ∷ wiki_link ∷ [])

-- The match of `validate_cell_values`: a cell writes the first text of some inlines as it is, and the label of others.
abbrev pub names_own_value : ℕ → Bool
names_own_value kind = among kind (code ∷ math ∷ html ∷ autolink ∷ [])

abbrev pub names_label : ℕ → Bool
names_label kind = among kind (link_reference ∷ image_reference ∷ footnote_reference ∷ [])

-- the match of `validate_emphasis_container` on a container and its only child: one delimiter, or two strikethroughs,
-- or two marks
abbrev pub is_joined : ℕ → ℕ → ℕ → ℕ → Bool
is_joined outer outer_a inner inner_a =
    among outer (emphasis ∷ strong ∷ []) && eqb inner emphasis && eqb outer_a inner_a
    || eqb outer delete && eqb inner delete
    || eqb outer mark && eqb inner mark

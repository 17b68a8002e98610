-- Cases of the papers, computed from the definitions. Bytes stand as numbers; a comment has the text.
use mathlib.Core.Path.{◌≡◌, refl}
use mathlib.Core.Bool.{true, false}
use mathlib.Core.List.{[], ◌∷◌, get_last_d, head_d}
use Rattle.leaves.specs.Text.Lines.{lines, longer, is_cr_of_crlf, starts_with, is_blank, holds_line_ending}
use Rattle.leaves.specs.Text.Edges.{has_blank_edge_line}

-- lines: CRLF is one line ending, CR LF LF and CR CR are two; `a CRLF b`, `a LF`, nothing
crlf : (lines (97 ∷ 13 ∷ 10 ∷ 98 ∷ []) ≡ (97 ∷ []) ∷ (98 ∷ []) ∷ []) × (lines (97 ∷ 13 ∷ 10 ∷ 10 ∷ []) ≡ (97 ∷ []) ∷ [] ∷ []) × (lines (97 ∷ 13 ∷ 13 ∷ []) ≡ (97 ∷ []) ∷ [] ∷ []) × (lines (97 ∷ 10 ∷ []) ≡ (97 ∷ []) ∷ []) × (lines [] ≡ [])
unfolding lines longer is_cr_of_crlf starts_with
crlf = (refl, refl, refl, refl, refl)

-- rule 27: `a CRLF` and `a` pass; nothing, `CRLF`, `a LF LF`, `a CR CRLF` and ` LF a` do not
code : (has_blank_edge_line (97 ∷ 13 ∷ 10 ∷ []) ≡ false) × (has_blank_edge_line (97 ∷ []) ≡ false) × (has_blank_edge_line [] ≡ true) × (has_blank_edge_line (13 ∷ 10 ∷ []) ≡ true) × (has_blank_edge_line (97 ∷ 10 ∷ 10 ∷ []) ≡ true) × (has_blank_edge_line (97 ∷ 13 ∷ 13 ∷ 10 ∷ []) ≡ true) × (has_blank_edge_line (32 ∷ 10 ∷ 97 ∷ []) ≡ true)
unfolding has_blank_edge_line head_d get_last_d is_blank lines longer is_cr_of_crlf starts_with
code = (refl, refl, refl, refl, refl, refl, refl)

-- rules 31 and 45
endings : (holds_line_ending (97 ∷ 13 ∷ []) ≡ true) × (holds_line_ending (97 ∷ 11 ∷ []) ≡ false)
unfolding holds_line_ending
endings = (refl, refl)

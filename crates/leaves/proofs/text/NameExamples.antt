-- Cases of the papers, computed from the definitions. Bytes stand as numbers; a comment has the text.
use mathlib.Core.Path.{◌≡◌, refl}
use mathlib.Core.Bool.{true, false}
use mathlib.Core.List.{[], ◌∷◌}
use Rattle.leaves.specs.Text.Lines.{longer}
use Rattle.leaves.specs.Text.Name.{is_directive_name, is_run, runs, is_attribute_name, is_blank_identifier}

-- rule 54: `reel-b` passes; `b2`, `a--b`, `-a` and nothing do not. Rule 55: `_:2` and `-` pass, `2b` does not
names : (is_directive_name (114 ∷ 101 ∷ 101 ∷ 108 ∷ 45 ∷ 98 ∷ []) ≡ true) × (is_directive_name (98 ∷ 50 ∷ []) ≡ false) × (is_directive_name (97 ∷ 45 ∷ 45 ∷ 98 ∷ []) ≡ false) × (is_directive_name (45 ∷ 97 ∷ []) ≡ false) × (is_directive_name [] ≡ false) × (is_attribute_name (95 ∷ 58 ∷ 50 ∷ []) ≡ true) × (is_attribute_name (45 ∷ []) ≡ true) × (is_attribute_name (50 ∷ 98 ∷ []) ≡ false)
unfolding is_directive_name is_run runs longer is_attribute_name
names = (refl, refl, refl, refl, refl, refl, refl, refl)

-- rule 24 trims spaces, tabs, LFs and CRs, and no U+00A0
blank : (is_blank_identifier (32 ∷ 9 ∷ 10 ∷ 13 ∷ []) ≡ true) × (is_blank_identifier (0xC2 ∷ 0xA0 ∷ []) ≡ false)
unfolding is_blank_identifier
blank = (refl, refl)

-- Cases of the papers, computed from the definitions. Bytes stand as numbers; a comment has the text.
use mathlib.Core.Path.{◌≡◌, refl}
use mathlib.Core.Bool.{true, false}
use mathlib.Core.List.{[], ◌∷◌}
use Rattle.leaves.specs.Text.Utf8.{follow, table_3_7}
use Rattle.leaves.specs.Text.Scalars.{scalars, decode, emit, lead_bits, trail_bits}
use Rattle.leaves.specs.Text.UnicodeLetters.{letter_ranges, number_ranges, in_ranges, is_unicode_letter}
use Rattle.leaves.specs.Text.UnicodeLetters.{is_tag_name_char, is_tag_name_of, is_tag_name}

-- `σ/2`, `ł` and `a_b-1` are tag names
names : (is_tag_name (0xCF ∷ 0x83 ∷ 47 ∷ 50 ∷ []) ≡ true) × (is_tag_name (0xC5 ∷ 0x82 ∷ []) ≡ true) × (is_tag_name (97 ∷ 95 ∷ 98 ∷ 45 ∷ 49 ∷ []) ≡ true)
unfolding is_tag_name is_tag_name_of is_tag_name_char is_unicode_letter in_ranges letter_ranges number_ranges scalars decode emit lead_bits trail_bits follow table_3_7
names = (refl, refl, refl)

-- nothing, `2a`, `-a`, `a b`, `×` (U+00D7) and a sequence that is cut off (C3) are none
others : (is_tag_name [] ≡ false) × (is_tag_name (50 ∷ 97 ∷ []) ≡ false) × (is_tag_name (45 ∷ 97 ∷ []) ≡ false) × (is_tag_name (97 ∷ 32 ∷ 98 ∷ []) ≡ false) × (is_tag_name (0xC3 ∷ 0x97 ∷ []) ≡ false) × (is_tag_name (97 ∷ 0xC3 ∷ []) ≡ false)
unfolding is_tag_name is_tag_name_of is_tag_name_char is_unicode_letter in_ranges letter_ranges number_ranges scalars decode emit lead_bits trail_bits follow table_3_7
others = (refl, refl, refl, refl, refl, refl)

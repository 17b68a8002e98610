-- Cases of the papers, computed from the definitions. Bytes stand as numbers; a comment has the text.
use mathlib.Core.Path.{◌≡◌, refl}
use mathlib.Core.Bool.{true, false}
use mathlib.Core.List.{[], ◌∷◌, get_last_d, head_d}
use Rattle.leaves.specs.Text.Utf8.{follow, table_3_7}
use Rattle.leaves.specs.Text.Scalars.{scalars, decode, emit, lead_bits, trail_bits}
use Rattle.leaves.specs.Text.White.{is_white, starts_with_white, ends_with_white}

-- a, é, €, U+1F3AC; and a sequence that is broken by an a, and one that is cut short
decoded : (scalars (0x61 ∷ 0xC3 ∷ 0xA9 ∷ 0xE2 ∷ 0x82 ∷ 0xAC ∷ 0xF0 ∷ 0x9F ∷ 0x8E ∷ 0xAC ∷ []) ≡ 0x61 ∷ 0xE9 ∷ 0x20AC ∷ 0x1F3AC ∷ []) × (scalars (0xE2 ∷ 0x82 ∷ 0x61 ∷ 0xE2 ∷ []) ≡ 0xFFFD ∷ 0x61 ∷ 0xFFFD ∷ [])
unfolding scalars decode emit lead_bits trail_bits follow table_3_7
decoded = (refl, refl)

-- ---- white space: U+000B, 0085, 2028 and 2029 are white here, and not CommonMark's Unicode whitespace; U+200B is not white
white : (starts_with_white (0x0B ∷ 0x61 ∷ []) ≡ true) × (starts_with_white (0xC2 ∷ 0x85 ∷ []) ≡ true) × (ends_with_white (0x61 ∷ 0xE2 ∷ 0x80 ∷ 0xA8 ∷ []) ≡ true) × (ends_with_white (0xE2 ∷ 0x80 ∷ 0xA9 ∷ []) ≡ true) × (ends_with_white (0xE2 ∷ 0x80 ∷ 0x8B ∷ []) ≡ false) × (starts_with_white [] ≡ false)
unfolding starts_with_white ends_with_white is_white head_d get_last_d scalars decode emit lead_bits trail_bits follow table_3_7
white = (refl, refl, refl, refl, refl, refl)

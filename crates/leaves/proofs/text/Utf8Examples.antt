-- Cases of the papers, computed from the definitions. Bytes stand as numbers; a comment has the text.
use mathlib.Core.Path.{◌≡◌, refl}
use mathlib.Core.Bool.{true, false}
use mathlib.Core.List.{[], ◌∷◌}
use Rattle.leaves.specs.Text.Utf8.{is_utf8, well_formed, follow, table_3_7}

-- ---- UTF-8: the euro sign and U+1F3AC; C0 80 is overlong, ED A0 80 a surrogate, F4 90 80 80 above 10FFFF; cut short; a stray byte
well-formed : (is_utf8 (0xE2 ∷ 0x82 ∷ 0xAC ∷ []) ≡ true) × (is_utf8 (0xF0 ∷ 0x9F ∷ 0x8E ∷ 0xAC ∷ []) ≡ true) × (is_utf8 [] ≡ true)
unfolding is_utf8 well_formed follow table_3_7
well-formed = (refl, refl, refl)

ill-formed : (is_utf8 (0xC0 ∷ 0x80 ∷ []) ≡ false) × (is_utf8 (0xED ∷ 0xA0 ∷ 0x80 ∷ []) ≡ false) × (is_utf8 (0xF4 ∷ 0x90 ∷ 0x80 ∷ 0x80 ∷ []) ≡ false) × (is_utf8 (0xE2 ∷ 0x82 ∷ []) ≡ false) × (is_utf8 (0x61 ∷ 0x80 ∷ []) ≡ false)
unfolding is_utf8 well_formed follow table_3_7
ill-formed = (refl, refl, refl, refl, refl)

-- Cases of the papers, computed from the definitions. Bytes stand as numbers; a comment has the text.
use mathlib.Core.Path.{◌≡◌, refl}
use mathlib.Core.Bool.{true, false}
use Rattle.leaves.specs.Text.Punctuation.{is_ascii_punctuation}

-- rule 43: `!`, `/`, `0`, `~`, U+007F
punctuation : (is_ascii_punctuation 0x21 ≡ true) × (is_ascii_punctuation 0x2F ≡ true) × (is_ascii_punctuation 0x30 ≡ false) × (is_ascii_punctuation 0x7E ≡ true) × (is_ascii_punctuation 0x7F ≡ false)
punctuation = (refl, refl, refl, refl, refl)

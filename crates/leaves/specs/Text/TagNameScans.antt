-- How the code reads a tag name: one of ASCII by its bytes, and any other a character at a time. The proofs equate this
-- with `is_tag_name`, and no promise to a caller cites it.
use Rattle.std.specs.Prelude.{ℕ, Bool, true, false, ◌&&◌, ◌||◌, List, eqb}
use Rattle.std.specs.List.{list_all}
use mathlib.Core.List.{head_d}
use Rattle.leaves.specs.Text.Bytes.{is_letter, is_digit, slash, underscore, hyphen}
use Rattle.leaves.specs.Text.UnicodeLetters.{is_unicode_letter, is_tag_name_char}

-- `is_tag_name_char` of an ASCII character
abbrev pub is_ascii_tag_name_char : ℕ → Bool
is_ascii_tag_name_char c = is_letter c || is_digit c || eqb c slash || eqb c underscore || eqb c hyphen

-- a letter of ASCII, and then characters of ASCII that can continue a tag name
unfoldable pub is_ascii_tag_name : List ℕ → Bool
is_ascii_tag_name s = is_letter (head_d s 0) && list_all is_ascii_tag_name_char s

-- the character can stand in a tag name: at its front (`first`), or behind other characters
unfoldable pub fits_tag_name : Bool → ℕ → Bool
fits_tag_name true c = is_unicode_letter c
fits_tag_name false c = is_tag_name_char c

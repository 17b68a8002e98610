-- Rules 24, 54 and 55: names and identifiers.
use Rattle.std.specs.Prelude.{ℕ, Bool, false, ◌&&◌, ◌||◌, List, [], ◌∷◌, eqb, if◌then◌else◌}
use Rattle.leaves.specs.Text.Bytes.{is_letter, is_digit, is_blank_byte, is_line_ending_byte, hyphen, underscore, colon}
use Rattle.std.specs.List.{list_all}
use Rattle.leaves.specs.Text.Lines.{longer}

-- Rust's `name.split('-')`: what stands before, between and after the hyphens
unfoldable pub runs : List ℕ → List (List ℕ)
runs [] = [] ∷ []
runs (b ∷ s) =
    let later = runs s in
    if eqb b hyphen then [] ∷ later else longer b later

-- what a run of a directive's name begins with, and what it goes on with
abbrev pub begins_run : ℕ → Bool
begins_run b = is_letter b

abbrev pub continues_run : ℕ → Bool
continues_run b = is_letter b

-- a run is not empty
unfoldable pub is_run : List ℕ → Bool
is_run [] = false
is_run (b ∷ s) = begins_run b && list_all continues_run s

-- Rule 54, `is_directive_name` of validate.rs: "one or more runs of ASCII letters joined by single `-`"
unfoldable pub is_directive_name : List ℕ → Bool
is_directive_name s = list_all is_run (runs s)

-- Rule 55, `is_attribute_name` of validate.rs: `first.is_ascii_alphabetic() || first == '_' || first == '-'`
abbrev pub begins_attribute : ℕ → Bool
begins_attribute b = is_letter b || eqb b underscore || eqb b hyphen

-- and for each later character: `char.is_ascii_alphanumeric() || char == '_' || char == '-' || char == ':'`
abbrev pub continues_attribute : ℕ → Bool
continues_attribute b = is_letter b || is_digit b || eqb b underscore || eqb b hyphen || eqb b colon

unfoldable pub is_attribute_name : List ℕ → Bool
is_attribute_name [] = false
is_attribute_name (b ∷ s) = begins_attribute b && list_all continues_attribute s

-- a byte that `trim_matches([' ', '\t', '\n', '\r'])` takes away
abbrev pub is_trimmed_byte : ℕ → Bool
is_trimmed_byte b = is_blank_byte b || is_line_ending_byte b

-- Rule 24, `validate_definition` of validate.rs: nothing is left of the identifier once it is trimmed
unfoldable pub is_blank_identifier : List ℕ → Bool
is_blank_identifier s = list_all is_trimmed_byte s

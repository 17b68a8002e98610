-- Films, computed from the definitions.
use mathlib.Core.Path.{◌≡◌, refl}
use mathlib.Core.List.{List, [], ◌∷◌, ◌++◌}
use Prim.Native.Nat.{ℕ}
use Rattle.leaves.specs.Text.Field.{front, field, past_spaces, read_digits, read_number, read_field}
use Rattle.leaves.specs.Text.Columns.{fields, line, are_fields, is_line, numbers}
use Rattle.setter.specs.Listing.Film.{most_input, are_records, sheet_of, film_sheet, text_behind, film_of}
use Rattle.leaves.specs.Refusal.Verdict.{answer}
use Rattle.setter.specs.Listing.FilmAnswer.{bad_column, big_film}

-- document 01's heading of depth 0: "`2 1` and ten zeros"
abbrev heading : List ℕ
heading = 2 ∷ 1 ∷ 0 ∷ 0 ∷ 0 ∷ 0 ∷ 0 ∷ 0 ∷ 0 ∷ 0 ∷ 0 ∷ 0 ∷ []

-- a film of n records and k bytes, as its first line says
abbrev says : ℕ → ℕ → List ℕ → List ℕ
says n k s = line (n ∷ k ∷ []) ++ s

largest : most_input ≡ 84503
largest = refl

-- no records and no text; the heading; the heading and a text of two bytes
good : (film_of (says 0 0 []) ≡ answer 0 0) × (film_of (says 1 0 (line heading)) ≡ answer 0 1) × (film_of (says 1 2 (line heading ++ 97 ∷ 10 ∷ [])) ≡ answer 0 1) × (film_sheet (says 1 2 (line heading ++ 97 ∷ 10 ∷ [])) ≡ heading) × (text_behind 1 (says 1 2 (line heading ++ 97 ∷ 10 ∷ [])) ≡ 97 ∷ 10 ∷ [])
unfolding line fields field front is_line are_fields numbers read_field past_spaces read_number read_digits are_records sheet_of film_sheet text_behind film_of
good = (refl, refl, refl, refl, refl)

-- nothing at all; a first line of one field, and of three; a record of 11 fields, and of 13; a record too few; a text too short, and too long
bad : (film_of [] ≡ answer bad_column 0) × (film_of (line (0 ∷ [])) ≡ answer bad_column 0) × (film_of (line (0 ∷ 0 ∷ 0 ∷ [])) ≡ answer bad_column 0) × (film_of (says 1 0 (line (1 ∷ 0 ∷ 0 ∷ 0 ∷ 0 ∷ 0 ∷ 0 ∷ 0 ∷ 0 ∷ 0 ∷ 0 ∷ []))) ≡ answer bad_column 0) × (film_of (says 1 0 (line (0 ∷ heading))) ≡ answer bad_column 0) × (film_of (says 2 0 (line heading)) ≡ answer bad_column 0) × (film_of (says 1 2 (line heading ++ 97 ∷ [])) ≡ answer bad_column 0) × (film_of (says 1 0 (line heading ++ 97 ∷ [])) ≡ answer bad_column 0)
unfolding line fields field front is_line are_fields numbers read_field past_spaces read_number read_digits are_records sheet_of film_sheet text_behind film_of
bad = (refl, refl, refl, refl, refl, refl, refl, refl)

-- 512 records and 16,384 bytes are not too many, and the lines are missed; one more of either is, before a line is read; a malformed count comes before that
big : (film_of (says 512 16384 []) ≡ answer bad_column 0) × (film_of (says 513 0 []) ≡ answer big_film 0) × (film_of (says 0 16385 []) ≡ answer big_film 0) × (film_of (line (513 ∷ 4294967296 ∷ [])) ≡ answer bad_column 0)
unfolding line fields field front is_line are_fields numbers read_field past_spaces read_number read_digits are_records sheet_of film_sheet text_behind film_of
big = (refl, refl, refl, refl)

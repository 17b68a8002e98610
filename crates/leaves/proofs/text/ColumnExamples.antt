-- Fields and lines, computed from the definitions. Bytes stand as numbers; a comment has the text.
use mathlib.Core.Path.{◌≡◌, refl}
use mathlib.Core.Bool.{true, false}
use mathlib.Core.List.{List, [], ◌∷◌, ◌++◌}
use Prim.Native.Nat.{ℕ}
use lib.ListN.{length, replicate}
use Rattle.leaves.specs.Text.Bytes.{space, lf}
use Rattle.leaves.specs.Text.Field.{front, field, past_spaces, read_digits, read_number, read_field}
use Rattle.leaves.specs.Text.Columns.{fields, line, are_fields, is_line, numbers}
use Rattle.std.proofs.Common.{None, Some}

-- spaces, and what stands behind them
abbrev behind : ℕ → List ℕ → List ℕ
behind k s = replicate k space ++ s

-- 0, 10 and the largest number, as they are written
written : (field 0 ≡ behind 10 (48 ∷ [])) × (field 10 ≡ behind 9 (49 ∷ 48 ∷ [])) × (field 4294967295 ≡ behind 1 (52 ∷ 50 ∷ 57 ∷ 52 ∷ 57 ∷ 54 ∷ 55 ∷ 50 ∷ 57 ∷ 53 ∷ []))
unfolding field front
written = (refl, refl, refl)

-- .. and as they are read; one more than the largest is malformed, and so is a number of 11 digits
largest : (read_field (field 0) ≡ Some 0) × (read_field (field 10) ≡ Some 10) × (read_field (field 4294967295) ≡ Some 4294967295) × (read_field (field 4294967296) ≡ None) × (read_field (field 10000000000) ≡ None)
unfolding field front read_field past_spaces read_number read_digits
largest = (refl, refl, refl, refl, refl)

-- `07`, `00`, spaces alone, `7` and a space behind it, `1 7`, `-7`, `7` behind a tab, and ten places: all malformed
malformed : (read_field (behind 9 (48 ∷ 55 ∷ [])) ≡ None) × (read_field (behind 9 (48 ∷ 48 ∷ [])) ≡ None) × (read_field (behind 11 []) ≡ None) × (read_field (behind 9 (55 ∷ 32 ∷ [])) ≡ None) × (read_field (behind 8 (49 ∷ 32 ∷ 55 ∷ [])) ≡ None) × (read_field (behind 9 (45 ∷ 55 ∷ [])) ≡ None) × (read_field (behind 9 (9 ∷ 55 ∷ [])) ≡ None) × (read_field (behind 9 (55 ∷ [])) ≡ None)
unfolding read_field past_spaces read_number read_digits
malformed = (refl, refl, refl, refl, refl, refl, refl, refl)

-- the line of 1 and 0, which has 23 bytes, is a line of two fields; it is none of one or of three, nor without its LF, nor with another byte in its place
two_fields : (length (line (1 ∷ 0 ∷ [])) ≡ 23) × (is_line 2 (line (1 ∷ 0 ∷ [])) ≡ true) × (numbers 2 (line (1 ∷ 0 ∷ [])) ≡ 1 ∷ 0 ∷ []) × (is_line 1 (line (1 ∷ 0 ∷ [])) ≡ false) × (is_line 3 (line (1 ∷ 0 ∷ [])) ≡ false) × (is_line 2 (fields (1 ∷ 0 ∷ [])) ≡ false) × (is_line 2 (fields (1 ∷ 0 ∷ []) ++ 13 ∷ lf ∷ []) ≡ false)
unfolding line fields field front is_line are_fields numbers read_field past_spaces read_number read_digits
two_fields = (refl, refl, refl, refl, refl, refl, refl)

-- what stands behind the line is not read
behind-line : is_line 2 (line (1 ∷ 0 ∷ []) ++ 7 ∷ []) ≡ true
unfolding line fields field front is_line are_fields read_field past_spaces read_number read_digits
behind-line = refl

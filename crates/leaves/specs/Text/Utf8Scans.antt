-- How the code reads a text, a byte at a time. The proofs equate each of these with a definition of another file, and
-- no promise to a caller cites them.
use Rattle.std.specs.Prelude.{ℕ, Bool, false, not, List, [], ◌∷◌, if◌then◌else◌}
use Rattle.leaves.specs.Text.Utf8.{Range, within, follow, table_3_7}

-- a byte is expected, and b does not fit
unfoldable pub breaks_character : List Range → ℕ → Bool
breaks_character [] b = false
breaks_character (r ∷ expected) b = not (within r b)

-- What is expected after b: the columns after the first where b fits the first, else what follows b as a first byte.
unfoldable pub expected_after : List Range → ℕ → List Range
expected_after [] b = follow table_3_7 b
expected_after (r ∷ expected) b = if within r b then expected else follow table_3_7 b

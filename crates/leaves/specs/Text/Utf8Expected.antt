-- The columns of table 3-7 that the code's `Expected` stands for.
use Rattle.std.specs.Prelude.{◌≡◌, ℕ, zero, suc, List, [], ◌∷◌, length, replicate}
use Rattle.leaves.specs.Text.Utf8.{Range, ◌to◌, trail}
use Rattle.leaves.specs.declared.text.utf8.Expected.{Expected}

abbrev pub trail_columns : ℕ → ℕ → ℕ → List Range
trail_columns zero low high = []
trail_columns (suc more) low high = low to high ∷ replicate more trail

-- so many columns of most bytes
abbrev pub trails : ℕ → List Range
trails more = replicate more trail

abbrev pub expected_of : Expected → List Range
expected_of o = trail_columns o.more o.low o.high

abbrev pub expects : ℕ → ℕ → ℕ → Expected
expects more low high = record { more = more; low = low; high = high }

-- The code's struct for the expected columns: how many they are, and the range of the first. Where none is expected,
-- the range is that of most columns.
unfoldable pub expecting : List Range → Expected
expecting [] = record { more = 0; low = trail.low; high = trail.high }
expecting (r ∷ expected) = record { more = suc (length expected); low = r.low; high = r.high }

-- o is that struct, and `expected_of` gives all the columns back
pub record Expects (expected : List Range) (o : Expected) : Type 0 where
  pub is : o ≡ expecting expected
  pub all : expected_of o ≡ expected

-- A line of fields, as it is written and as it is read.
-- Document 01: "lines ended by LF".
use Rattle.std.specs.Prelude.{ℕ, zero, suc, ◌+◌, ◌*◌, ◌≡◌, Bool, true, ◌&&◌, List}
use Rattle.std.specs.Prelude.{[], ◌∷◌, ◌++◌, eqb, length, get_or, take, drop, is_some, unwrap_or}
use Rattle.leaves.specs.Text.Bytes.{lf}
use Rattle.leaves.specs.Text.Over.{over}
use Rattle.leaves.specs.Text.Field.{places, field, read_field}

-- ---- a line as it is written

-- a field for each number, side by side
unfoldable pub fields : List ℕ → List ℕ
fields [] = []
fields (n ∷ ns) = field n ++ fields ns

unfoldable pub line : List ℕ → List ℕ
line ns = fields ns ++ lf ∷ []

-- the bytes are written into the output from place `at` on, and end before place `next`
pub record Writes (old : List ℕ) (at : ℕ) (bytes new : List ℕ) (next : ℕ) : Type 0 where
  pub written : new ≡ over old at bytes
  pub next_is : next ≡ at + length bytes

-- ---- a line as it is read, from the front of s

-- how many bytes a line of k fields has
abbrev pub line_bytes : ℕ → ℕ
line_bytes k = k * places + 1

-- the first k fields are well-formed
unfoldable pub are_fields : ℕ → List ℕ → Bool
are_fields zero s = true
are_fields (suc k) s = is_some (read_field (take places s)) && are_fields k (drop places s)

-- a line of k fields and no more stands at the front: LF follows the last field
unfoldable pub is_line : ℕ → List ℕ → Bool
is_line k s = are_fields k s && eqb (get_or s (k * places) 0) lf

-- the numbers of the first k fields; 0 where one is malformed
unfoldable pub numbers : ℕ → List ℕ → List ℕ
numbers zero s = []
numbers (suc k) s = unwrap_or (read_field (take places s)) 0 ∷ numbers k (drop places s)

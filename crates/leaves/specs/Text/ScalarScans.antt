-- How the code reads the values of a text's characters, a byte at a time. The proofs equate each of these with a
-- definition of another file, and no promise to a caller cites them.
use Rattle.std.specs.Prelude.{◌≡◌, ℕ, zero, suc, ◌<◌, ◌≤◌, false, List, [], ◌∷◌, length}
use Rattle.std.specs.Prelude.{get_or, if◌then◌else◌}
use Rattle.leaves.specs.Text.Utf8.{Range, within, trail}
use Rattle.leaves.specs.Text.Scalars.{lead_bits, trail_bits}

-- the value of a character's bits so far, with those of b
unfoldable pub value_after : List Range → ℕ → ℕ → ℕ
value_after [] value b = lead_bits b
value_after (r ∷ expected) value b = if within r b then trail_bits value b else lead_bits b

-- what a value stays below while so many more bytes are expected
abbrev pub room : ℕ → ℕ
room zero = 0x200000
room (suc zero) = 0x8000
room (suc (suc zero)) = 0x200
room (suc (suc (suc zero))) = 0x8
room (suc (suc (suc (suc n)))) = 0

-- `at` is the start, or the byte at it is none of 0x80 to 0xBF: it begins a sequence, or no sequence can have it
pub record BeginsScalar (s : List ℕ) (at : ℕ) : Type 0 where
  pub inside : at ≤ length s
  pub fresh : 0 < at → (at < length s) × (within trail (get_or s at 0) ≡ false)

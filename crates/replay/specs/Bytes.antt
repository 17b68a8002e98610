-- The numbers of a stored record, least byte first.
use Rattle.std.specs.Prelude.{ℕ, ◌+◌, ◌*◌, List, get_or}

-- the byte at a place: 0 behind the end
abbrev pub byte_at : List ℕ → ℕ → ℕ
byte_at s at = get_or s at 0

-- the number of two bytes
unfoldable pub pair_at : List ℕ → ℕ → ℕ
pair_at s at = byte_at s at + byte_at s (at + 1) * 0x100

-- the number of four bytes
unfoldable pub number_at : List ℕ → ℕ → ℕ
number_at s at =
    byte_at s at + byte_at s (at + 1) * 0x100 + byte_at s (at + 2) * 0x10000 + byte_at s (at + 3) * 0x1000000

-- the number of eight bytes
unfoldable pub long_at : List ℕ → ℕ → ℕ
long_at s at = number_at s at + number_at s (at + 4) * 0x100000000

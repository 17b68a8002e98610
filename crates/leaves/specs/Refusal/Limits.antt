-- Document 01's limits: a sheet or a text that is over one is refused; and the largest number of an item.
use Rattle.std.specs.Prelude.{ℕ, ◌-◌}

-- 2: "over 65,535 records"; 3: "over 16,777,216 bytes"; 5: a level "over 64"
abbrev pub most_records : ℕ
most_records = 65535

abbrev pub most_bytes : ℕ
most_bytes = 16777216

abbrev pub most_level : ℕ
most_level = 64

-- how many levels are left below a level. The walks call each other, and "remaining levels, at most 64, are the falling
-- number": twice this number for a loop over children, and one more for a record.
abbrev pub levels_left : ℕ → ℕ
levels_left level = most_level - level

-- rule 50: a number "must be representable in at most 9 digits"; stop 7: "number over 999,999,999"
abbrev pub most_item_number : ℕ
most_item_number = 999999999

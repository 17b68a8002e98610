-- The scalar values that bytes encode: The Unicode Standard, section 3.9, tables 3-6 ('UTF-8 Bit Distribution') and
-- 3-7. For well-formed bytes these are their characters. An ill-formed sequence gives U+FFFD and ends before the byte
-- that does not fit; that byte begins the next sequence (the standard's 'Substitution of Maximal Subparts'). So every
-- list of bytes has its scalar values.
use Rattle.std.specs.Prelude.{ℕ, ◌+◌, ◌*◌, ◌%◌, List, [], ◌∷◌, ltb, if◌then◌else◌}
use Rattle.leaves.specs.Text.Utf8.{Range, within, follow, table_3_7}

abbrev pub replacement : ℕ
replacement = 0xFFFD

-- the bits of a first byte that belong to the scalar value
unfoldable pub lead_bits : ℕ → ℕ
lead_bits b = if ltb b 0x80 then b else if ltb b 0xE0 then b % 0x20 else if ltb b 0xF0 then b % 0x10 else b % 0x08

-- the value with the six bits of one more byte
unfoldable pub trail_bits : ℕ → ℕ → ℕ
trail_bits value b = value * 0x40 + b % 0x40

-- a sequence that expects no more bytes is whole, and its value comes first
unfoldable pub emit : List Range → ℕ → List ℕ → List ℕ
emit [] value rest = value ∷ rest
emit (r ∷ expected) value rest = rest

-- The scalar values, where the columns `expected` of a row are still to come and its bytes so far give `value`.
unfoldable pub decode : List Range → ℕ → List ℕ → List ℕ
decode [] value [] = []
decode (r ∷ expected) value [] = replacement ∷ []
decode [] value (b ∷ s) = emit (follow table_3_7 b) (lead_bits b) (decode (follow table_3_7 b) (lead_bits b) s)
decode (r ∷ expected) value (b ∷ s) =
    let goes_on = emit expected (trail_bits value b) (decode expected (trail_bits value b) s) in
    let begins = emit (follow table_3_7 b) (lead_bits b) (decode (follow table_3_7 b) (lead_bits b) s) in
    if within r b then goes_on else replacement ∷ begins

unfoldable pub scalars : List ℕ → List ℕ
scalars s = decode [] 0 s

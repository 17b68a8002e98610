-- Well-formed UTF-8 (refusal 9): The Unicode Standard, section 3.9, table 3-7, 'Well-Formed UTF-8 Byte Sequences'.
use Rattle.std.specs.Prelude.{ℕ, Bool, true, false, ◌&&◌, List, [], ◌∷◌, if◌then◌else◌}
use Rattle.leaves.specs.Text.Bytes.{between}

-- a cell of the table: the bytes from low to high
pub record Range : Type 0 where
  pub low : ℕ
  pub high : ℕ

infix 70 ◌to◌
abbrev pub ◌to◌ : ℕ → ℕ → Range
low to high = record { low = low; high = high }

abbrev pub within : Range → ℕ → Bool
within r b = between r.low r.high b

-- the bytes of most second, third and fourth columns
abbrev pub trail : Range
trail = 0x80 to 0xBF

-- The table, a row a line: what the first, second, third and fourth byte of a sequence may be.
unfoldable pub table_3_7 : List (List Range)
table_3_7 =
    (0x00 to 0x7F ∷ [])
    ∷ (0xC2 to 0xDF ∷ trail ∷ [])
    ∷ (0xE0 to 0xE0 ∷ 0xA0 to 0xBF ∷ trail ∷ [])
    ∷ (0xE1 to 0xEC ∷ trail ∷ trail ∷ [])
    ∷ (0xED to 0xED ∷ 0x80 to 0x9F ∷ trail ∷ [])
    ∷ (0xEE to 0xEF ∷ trail ∷ trail ∷ [])
    ∷ (0xF0 to 0xF0 ∷ 0x90 to 0xBF ∷ trail ∷ trail ∷ [])
    ∷ (0xF1 to 0xF3 ∷ trail ∷ trail ∷ trail ∷ [])
    ∷ (0xF4 to 0xF4 ∷ 0x80 to 0x8F ∷ trail ∷ trail ∷ [])
    ∷ []

-- a cell that no byte fits
abbrev pub nothing : Range
nothing = 0xBF to 0x80

-- What must follow a first byte: the other columns of the row whose first column has it.
-- After a byte that no row begins with comes a cell that no byte fits.
unfoldable pub follow : List (List Range) → ℕ → List Range
follow [] b = nothing ∷ []
follow ([] ∷ rows) b = follow rows b
follow ((first ∷ others) ∷ rows) b = if within first b then others else follow rows b

-- Whether bytes are well-formed where the columns `expected` of a row are still to come.
unfoldable pub well_formed : List Range → List ℕ → Bool
well_formed [] [] = true
well_formed [] (b ∷ s) = well_formed (follow table_3_7 b) s
well_formed (r ∷ expected) [] = false
well_formed (r ∷ expected) (b ∷ s) = within r b && well_formed expected s

-- Whether a text is well-formed by itself.
unfoldable pub is_utf8 : List ℕ → Bool
is_utf8 s = well_formed [] s

-- Lines and line endings. Rules 27, 29, 31 and 45.
use Rattle.std.specs.Prelude.{ℕ, Bool, false, ◌&&◌, List, [], ◌∷◌, eqb, if◌then◌else◌}
use Rattle.leaves.specs.Text.Bytes.{cr, lf, is_blank_byte, is_line_ending_byte}
use Rattle.std.specs.List.{list_all, list_any}

-- Document 01: "A line ending is held where there is a CR or LF."
unfoldable pub holds_line_ending : List ℕ → Bool
holds_line_ending s = list_any is_line_ending_byte s

-- Document 01: "Blank is spaces and tabs only." (CommonMark 0.31.2, 2.1: "A line containing no characters, or a line
-- containing only spaces (U+0020) or tabs (U+0009), is called a blank line.")
unfoldable pub is_blank : List ℕ → Bool
is_blank s = list_all is_blank_byte s

-- whether the first byte is b
unfoldable pub starts_with : ℕ → List ℕ → Bool
starts_with b [] = false
starts_with b (x ∷ xs) = eqb x b

-- lines with b put in front of the first
unfoldable pub longer : ℕ → List (List ℕ) → List (List ℕ)
longer b [] = (b ∷ []) ∷ []
longer b (l ∷ ls) = (b ∷ l) ∷ ls

-- a CR whose LF comes next: the two are one line ending
unfoldable pub is_cr_of_crlf : ℕ → List ℕ → Bool
is_cr_of_crlf b s = eqb b cr && starts_with lf s

-- CommonMark 0.31.2, 2.1: "A line is a sequence of zero or more characters other than line feed (U+000A) or carriage
-- return (U+000D), followed by a line ending or by the end of file. A line ending is a line feed (U+000A), a carriage
-- return (U+000D) not followed by a line feed, or a carriage return and a following line feed."
-- The CR of a CRLF is passed over, and its LF is the ending. What follows the last ending is a line if it holds a byte.
unfoldable pub lines : List ℕ → List (List ℕ)
lines [] = []
lines (b ∷ s) =
    let later = lines s in
    if is_cr_of_crlf b s then later else if is_line_ending_byte b then [] ∷ later else longer b later

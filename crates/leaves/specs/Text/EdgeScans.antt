-- How the code reads a text, a byte at a time. The proofs equate each of these with a definition of another file, and
-- no promise to a caller cites them.
use mathlib.Core.List.{get_last_d, head_d}
use Rattle.std.specs.Prelude.{◌≡◌, ℕ, ◌<◌, ◌≤◌, Bool, true, false, ◌&&◌, ◌||◌, List, []}
use Rattle.std.specs.Prelude.{◌∷◌, length}
use Rattle.std.specs.Prelude.{get_or, drop, if◌then◌else◌}
use Rattle.leaves.specs.Text.Bytes.{is_blank_byte, is_line_ending_byte}
use Rattle.leaves.specs.Text.Lines.{is_cr_of_crlf, lines, is_blank}

-- Whether the last line is blank. `last`: the last line that has a byte or an ending is blank. `blank`: the line being
-- read is blank so far.
unfoldable pub last_blank : Bool → Bool → List ℕ → Bool
last_blank last blank [] = last
last_blank last blank (b ∷ s) =
    let held = blank && is_blank_byte b in
    last_blank
    (if is_cr_of_crlf b s then last else if is_line_ending_byte b then blank else held)
    (if is_cr_of_crlf b s then blank else is_line_ending_byte b || held)
    s

-- Only spaces and tabs stand before `at`, and neither stands at it. The first and the last line are blank exactly where
-- they are blank when read from `at` on.
pub record Led (s : List ℕ) (at : ℕ) : Type 0 where
  pub within : at ≤ length s
  pub first : is_blank (head_d (lines s) []) ≡ is_blank (head_d (lines (drop at s)) [])
  pub last : is_blank (get_last_d (lines s) []) ≡ last_blank true true (drop at s)
  pub solid : at < length s → is_blank_byte (get_or s at 0) ≡ false

-- `at` is the start, or the byte at it is neither blank nor a line ending
pub record Solid (s : List ℕ) (at : ℕ) : Type 0 where
  pub inside : at ≤ length s
  pub firm : 0 < at
      → (at < length s) × ((is_blank_byte (get_or s at 0) || is_line_ending_byte (get_or s at 0)) ≡ false)

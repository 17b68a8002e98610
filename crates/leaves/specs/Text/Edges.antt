-- The first and the last line of a value. Rule 27.
use mathlib.Core.List.{get_last_d, head_d}
use Rattle.std.specs.Prelude.{ℕ, Bool, ◌||◌, List, []}
use Rattle.leaves.specs.Text.Lines.{is_blank, lines}

-- Rule 27 on a value, `validate_code_block` of validate.rs: its first or its last line is blank. A value with no line
-- counts as one blank line.
unfoldable pub has_blank_edge_line : List ℕ → Bool
has_blank_edge_line s = is_blank (head_d (lines s) []) || is_blank (get_last_d (lines s) [])

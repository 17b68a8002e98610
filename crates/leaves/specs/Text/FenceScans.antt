-- How the code reads a text, a byte at a time. The proofs equate each of these with a definition of another file, and
-- no promise to a caller cites them.
use Rattle.std.specs.Prelude.{ℕ, ◌-◌, Bool, ◌||◌, Option, Some, None, List, [], ◌∷◌, eqb}
use Rattle.std.specs.Prelude.{if◌then◌else◌}
use Rattle.std.specs.Option.{option_eq}
use Rattle.leaves.specs.Text.Bytes.{is_blank_byte, is_line_ending_byte}
use Rattle.leaves.specs.Text.Lines.{is_cr_of_crlf}

-- how many bytes of a fence are still to come in the line, after b; none where the line is no fence
unfoldable pub fence_left : ℕ → Option ℕ → ℕ → Option ℕ
fence_left c None b = None
fence_left c (Some left) b =
    if eqb left 0
    then (if is_blank_byte b then Some 0 else None)
    else if eqb b c
    then Some (left - 1)
    else None

-- the line is a fence: no byte of one is still to come
abbrev pub is_whole : Option ℕ → Bool
is_whole left = option_eq eqb left (Some 0)

-- Whether a line from here on is a fence. `left`: how many bytes of a fence are still to come in the line being read.
unfoldable pub fence_from : ℕ → Option ℕ → List ℕ → Bool
fence_from c left [] = is_whole left
fence_from c left (b ∷ s) =
    let skips = fence_from c left s in
    let ends = fence_from c (Some 3) s in
    let holds = fence_from c (fence_left c left b) s in
    if is_cr_of_crlf b s then skips else if is_line_ending_byte b then is_whole left || ends else holds

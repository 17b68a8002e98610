-- Rule 21: `has_odd_escaped_pipe` of validate.rs, "Whether `value` holds a `|` right after an odd run of backslashes."
use Rattle.std.specs.Prelude.{ℕ, Bool, false, not, ◌&&◌, ◌||◌, List, [], ◌∷◌, eqb}
use Rattle.leaves.specs.Text.Bytes.{backslash, pipe}

-- Whether the bytes that come next hold such a `|`. `odd`: the run of backslashes before them is odd.
unfoldable pub odd_pipe_after : Bool → List ℕ → Bool
odd_pipe_after odd [] = false
odd_pipe_after odd (b ∷ s) = eqb b pipe && odd || odd_pipe_after (eqb b backslash && not odd) s

unfoldable pub has_odd_escaped_pipe : List ℕ → Bool
has_odd_escaped_pipe s = odd_pipe_after false s

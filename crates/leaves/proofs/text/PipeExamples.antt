-- Cases of the papers, computed from the definitions. Bytes stand as numbers; a comment has the text.
use mathlib.Core.Path.{◌≡◌, refl}
use mathlib.Core.Bool.{true, false}
use mathlib.Core.List.{[], ◌∷◌}
use Rattle.leaves.specs.Text.Pipe.{has_odd_escaped_pipe, odd_pipe_after}

-- rule 21: `\|` and `\\\|`, and not `\\|` or `\a|`
pipes : (has_odd_escaped_pipe (92 ∷ 124 ∷ []) ≡ true) × (has_odd_escaped_pipe (92 ∷ 92 ∷ 124 ∷ []) ≡ false) × (has_odd_escaped_pipe (92 ∷ 92 ∷ 92 ∷ 124 ∷ []) ≡ true) × (has_odd_escaped_pipe (92 ∷ 97 ∷ 124 ∷ []) ≡ false)
unfolding has_odd_escaped_pipe odd_pipe_after
pipes = (refl, refl, refl, refl)

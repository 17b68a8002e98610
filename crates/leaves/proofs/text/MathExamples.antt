-- Cases of the papers, computed from the definitions. Bytes stand as numbers; a comment has the text.
use mathlib.Core.Path.{◌≡◌, refl}
use mathlib.Core.Bool.{true, false}
use mathlib.Core.List.{[], ◌∷◌}
use Rattle.leaves.specs.Text.Lines.{starts_with}
use Rattle.leaves.specs.Text.Math.{holds_backtick_dollar}

-- rule 48: a backtick with a dollar behind it, and not the other way round
ticks : (holds_backtick_dollar (97 ∷ 96 ∷ 36 ∷ []) ≡ true) × (holds_backtick_dollar (36 ∷ 96 ∷ []) ≡ false)
unfolding holds_backtick_dollar starts_with
ticks = (refl, refl)

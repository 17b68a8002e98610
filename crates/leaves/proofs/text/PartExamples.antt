-- Cases of the papers, computed from the definitions. Bytes stand as numbers; a comment has the text.
use mathlib.Core.Path.{◌≡◌, refl}
use mathlib.Core.Bool.{false}
use mathlib.Core.List.{[], ◌∷◌}
use Rattle.leaves.specs.Text.Part.{part_of}
use Rattle.leaves.specs.Text.Same.{same_bytes}

-- a part that ends with the text, an empty one at its end, and one that is past it
parts : (part_of (1 ∷ 2 ∷ 3 ∷ []) 1 2 ≡ 2 ∷ 3 ∷ []) × (part_of (1 ∷ 2 ∷ 3 ∷ []) 3 0 ≡ []) × (part_of (1 ∷ 2 ∷ 3 ∷ []) 2 2 ≡ []) × (same_bytes (1 ∷ 2 ∷ []) (1 ∷ []) ≡ false)
unfolding part_of same_bytes
parts = (refl, refl, refl, refl)

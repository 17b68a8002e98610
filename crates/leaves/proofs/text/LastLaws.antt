-- The last element of a list, by recursion.
use mathlib.Core.Path.{◌≡◌, refl}
use mathlib.Core.List.{List, [], ◌∷◌, get_last_d}

pub last-cons : {A : Type 0} (x d : A) (xs : List A) → get_last_d (x ∷ xs) d ≡ get_last_d xs x
unfolding get_last_d
last-cons x d [] = refl
last-cons x d (y ∷ xs) = refl

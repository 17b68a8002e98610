-- A list written over a part of another, and whether a list is empty.
use Rattle.std.specs.Prelude.{Bool, true, false, if◌then◌else◌, List, [], ◌∷◌, ◌++◌, ℕ, ◌+◌}
use Rattle.std.specs.Prelude.{leb, length, take, drop}

-- the list is empty
unfoldable pub is_empty_list : {A : Type 0} → List A → Bool
is_empty_list [] = true
is_empty_list (x ∷ xs) = false

-- the list w with e written over it from `at` on if the whole of e fits, and w as it was if not
unfoldable pub over : List ℕ → ℕ → List ℕ → List ℕ
over w at e =
    if leb (at + length e) (length w) then take at w ++ e ++ drop (at + length e) w else w

-- A text without the spaces and tabs at its ends. Rules 11 and 29.
use Rattle.std.specs.Prelude.{ℕ, List, [], ◌∷◌, if◌then◌else◌}
use Rattle.leaves.specs.Text.Bytes.{is_blank_byte}

-- b in front of the bytes after it, which are trimmed already; nothing where none is left of them and b is blank
unfoldable pub trim_cons : ℕ → List ℕ → List ℕ
trim_cons b [] = if is_blank_byte b then [] else b ∷ []
trim_cons b (x ∷ xs) = b ∷ x ∷ xs

-- without its trailing spaces and tabs
unfoldable pub trim_end : List ℕ → List ℕ
trim_end [] = []
trim_end (b ∷ s) = trim_cons b (trim_end s)

-- without its leading spaces and tabs
unfoldable pub trim_start : List ℕ → List ℕ
trim_start [] = []
trim_start (b ∷ s) = if is_blank_byte b then trim_start s else b ∷ s

unfoldable pub trim : List ℕ → List ℕ
trim s = trim_start (trim_end s)

-- The words of a stored record.
use Rattle.std.specs.Prelude.{ℕ, zero, suc, ◌*◌, Bool, true, ◌&&◌, ◌≡◌, if◌then◌else◌}
use Rattle.std.specs.Prelude.{List, [], ◌∷◌, ◌++◌, eqb, leb, ltb, length, take}
use Rattle.replay.specs.Bytes.{number_at}

-- what `f` gives at 0, 1 and so on, n of them
unfoldable pub up_to : ℕ → (ℕ → ℕ) → List ℕ
up_to zero f = []
up_to (suc n) f = up_to n f ++ (f n ∷ [])

-- every number is what `f` gives at its place, of which the first is k
unfoldable pub agrees_from : (ℕ → ℕ) → ℕ → List ℕ → Bool
agrees_from f k [] = true
agrees_from f k (x ∷ xs) = eqb x (f k) && agrees_from f (suc k) xs

-- word k of the bytes
abbrev pub word_of : List ℕ → ℕ → ℕ
word_of s k = number_at s (k * 4)

-- the first n words of the bytes
unfoldable pub words_of : ℕ → List ℕ → List ℕ
words_of n s = up_to n (word_of s)

-- the first n words; none where there are fewer
unfoldable pub first_of : List ℕ → ℕ → List ℕ
first_of w n = if leb n (length w) then take n w else []

-- the word whose bytes begin at a place; `rest` behind the bytes
unfoldable pub word_or : List ℕ → ℕ → ℕ → ℕ
word_or s rest at = if ltb at (length s) then number_at s at else rest

-- every word is the one whose bytes stand at its place, and `rest` behind the bytes
unfoldable pub same_words : List ℕ → List ℕ → ℕ → Bool
same_words w s rest = agrees_from (λ k. word_or s rest (k * 4)) 0 w

-- a call answers the first of the pair, and the second is the words that it was lent, after it
pub record Gives (both : ℕ × List ℕ) (answer : ℕ) (left : List ℕ) : Type 0 where
  pub first : answer ≡ both.0
  pub second : left ≡ both.1

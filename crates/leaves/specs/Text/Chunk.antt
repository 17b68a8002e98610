-- Bytes that a loop passes over sixteen at a time. A reader need not believe these: the proofs of the loops equate what
-- they say with the definitions of other files, and no promise to a caller of the library cites them.
use Rattle.std.specs.Prelude.{◌≡◌, ℕ, zero, suc, Bool, true, false, not, ◌&&◌, List, [], ◌∷◌, eqb}
use Rattle.std.specs.Prelude.{ltb, drop}

abbrev pub chunk : ℕ
chunk = 16

-- the first n bytes are there, and each passes the test
unfoldable pub passes : (ℕ → Bool) → ℕ → List ℕ → Bool
passes test zero s = true
passes test (suc n) [] = false
passes test (suc n) (b ∷ s) = test b && passes test n s

-- a byte of ASCII
abbrev pub is_ascii : ℕ → Bool
is_ascii b = ltb b 0x80

-- a byte that is neither of two
abbrev pub is_neither : ℕ → ℕ → ℕ → Bool
is_neither x y b = not (eqb b x) && not (eqb b y)

-- a byte that is not x
abbrev pub is_other : ℕ → ℕ → Bool
is_other x b = not (eqb b x)

-- the rest is what stands behind bytes that are all there and pass the test
pub record Skipped (test : ℕ → Bool) (s rest : List ℕ) : Type 0 where
  pub count : ℕ
  pub is : rest ≡ drop count s
  pub all : passes test count s ≡ true

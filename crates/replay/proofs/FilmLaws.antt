-- Films and what is printed for each.
use mathlib.Core.Path.{◌≡◌, refl, sym, ap, ◌∙◌}
use mathlib.Core.Bool.{Bool, true, ◌&&◌, and_assoc}
use mathlib.Core.List.{List, [], ◌∷◌}
use Prim.Native.Nat.{ℕ, zero, suc, min}
use native.Mathlib.Omega.{arith}
use lib.Dec.{eqb}
use lib.ListN.{length, get_or, take, drop}
use lib.Pointwise.{pointwise}
use Rattle.std.specs.Bool.{◌==◌}
use Rattle.std.specs.List.{list_all, starts_with}
use Rattle.replay.specs.Words.{agrees_from}
use Rattle.replay.specs.Films.{before_byte, same_printed}

-- numbers compared from place k + 1 on are compared with those of one place on
agrees-on : (f : ℕ → ℕ) (k : ℕ) (xs : List ℕ) → agrees_from f (suc k) xs ≡ agrees_from (λ j. f (suc j)) k xs
unfolding agrees_from
agrees-on f k [] = refl
agrees-on f k (x ∷ xs) = ap (λ (b : Bool). eqb x (f (suc k)) && b) (agrees-on f (suc k) xs)

-- the bytes are the wanted ones as far as both go, and those behind are as before
unfoldable pub split_same : List ℕ → List ℕ → Bool
split_same [] wanted = true
split_same (x ∷ xs) [] = eqb x before_byte && split_same xs []
split_same (x ∷ xs) (y ∷ ys) = eqb x y && split_same xs ys

pub printed-same : (bytes wanted : List ℕ) → split_same bytes wanted ≡ same_printed bytes wanted
unfolding split_same same_printed agrees_from
printed-same [] wanted = refl
printed-same (x ∷ xs) [] = ap (λ (b : Bool). eqb x before_byte && b) (printed-same xs [] ∙ sym (agrees-on (λ k. before_byte) 0 xs))
printed-same (x ∷ xs) (y ∷ ys) = ap (λ (b : Bool). eqb x y && b) (printed-same xs ys ∙ sym (agrees-on (λ k. get_or (y ∷ ys) k before_byte) 0 xs))

starts-same : (bytes wanted : List ℕ) (n : ℕ) → n ≡ min (length wanted) (length bytes) → (pointwise eqb (take n bytes) (take (length (take n bytes)) wanted) && list_all (λ x. x == before_byte) (drop n bytes)) ≡ split_same bytes wanted
unfolding split_same
starts-same [] wanted n e = let z : n ≡ 0 = omega arith in rw z
starts-same (x ∷ xs) [] n e =
    let z : n ≡ 0 = omega arith in
    rw z (ap (λ (b : Bool). eqb x before_byte && b) (starts-same xs [] 0 (omega arith)))
starts-same (x ∷ xs) (y ∷ ys) zero e = absurd (omega arith)
starts-same (x ∷ xs) (y ∷ ys) (suc m) e = and_assoc (eqb x y) (pointwise eqb (take m xs) (take (length (take m xs)) ys)) (list_all (λ z. z == before_byte) (drop m xs)) ∙ ap (λ (b : Bool). eqb x y && b) (starts-same xs ys m (omega arith))

pub same-start : (bytes wanted a b : List ℕ) (n : ℕ) (s : Bool) → n ≡ min (length wanted) (length bytes) → a ≡ take n bytes → b ≡ drop n bytes → s ≡ starts_with eqb wanted a → (s && list_all (λ x. x == before_byte) b) ≡ same_printed bytes wanted
same-start bytes wanted a b n s m e f g = rw (g, e, f) (starts-same bytes wanted n m ∙ printed-same bytes wanted)

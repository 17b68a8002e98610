-- A kind is below 54, so that a rule of all kinds is one computed test.
use mathlib.Core.Path.{◌≡◌, refl, sym, subst, ◌∙◌}
use mathlib.Core.Bool.{Bool, true, false, false≢true, and-false}
use Prim.Native.Nat.{ℕ, ◌<◌, ◌≤◌}
use native.Mathlib.Omega.{arith}
use borrow.Author.Tests.{eqb-true, leb-true, leb-false, lt-leb}
use lib.Dec.{eqb, leb}
use Rattle.leaves.specs.Sheet.Kinds.{is_kind}

pub kind-below : (k : ℕ) → is_kind k ≡ true → k < 54
kind-below k h = go (leb k 53) refl
  where
    go : (t : Bool) → leb k 53 ≡ t → k < 54
    go true e = let a : k ≤ 53 = leb-true k 53 e in omega arith
    go false e =
        let a : 53 < k = leb-false k 53 e in
        let z : is_kind k ≡ false = simp (lt-leb k 17 (omega arith), lt-leb k 24 (omega arith), lt-leb k 53 a, and-false) in
        absurd (false≢true (sym z ∙ h))

-- what holds of a kind by its name, and of every other
pub kind-cases : (P : ℕ → Type 0) (k name : ℕ) → P name → (eqb k name ≡ false → P k) → P k
kind-cases P k name named other = go (eqb k name) refl
  where
    go : (b : Bool) → eqb k name ≡ b → P k
    go true e = subst P (sym (eqb-true k name e)) named
    go false e = other e

-- The definition of `Math`, two bytes at a time: where they decide, and where what is left does.
use mathlib.Core.Path.{◌≡◌, refl, sym, ap, ◌∙◌}
use mathlib.Core.Bool.{true, false, ◌&&◌, and-false}
use mathlib.Core.List.{List, [], ◌∷◌}
use Prim.Native.Nat.{ℕ, ◌<◌, ◌≤◌}
use native.Mathlib.Omega.{arith}
use borrow.Author.Tests.{not-true, eq-eqb, ne_eqb}
use lib.Dec.{eqb}
use lib.ListN.{length, get_or, drop}
use Rattle.leaves.specs.Text.Bytes.{dollar, backtick}
use Rattle.leaves.specs.Text.Lines.{starts_with}
use Rattle.leaves.specs.Text.Math.{holds_backtick_dollar}
use Rattle.leaves.proofs.text.ScanLaws.{next}
use Rattle.leaves.specs.Text.Chunk.{is_other, Skipped}
use Rattle.leaves.proofs.text.ChunkLaws.{leap}

-- two bytes
module _ (a b : ℕ) (s : List ℕ) where
  tick-one : (eqb a backtick && eqb b dollar) ≡ false → holds_backtick_dollar (a ∷ b ∷ s) ≡ holds_backtick_dollar (b ∷ s)
  unfolding holds_backtick_dollar starts_with
  tick-one e = rw e

  tick-pair : (eqb a backtick && eqb b dollar) ≡ true → holds_backtick_dollar (a ∷ b ∷ s) ≡ true
  unfolding holds_backtick_dollar starts_with
  tick-pair e = rw e

tick-none : (b : ℕ) (s : List ℕ) → eqb b backtick ≡ false → holds_backtick_dollar (b ∷ s) ≡ holds_backtick_dollar s
unfolding holds_backtick_dollar
tick-none b s e = rw e

tick-short : (s : List ℕ) → length s ≤ 1 → holds_backtick_dollar s ≡ false
unfolding holds_backtick_dollar starts_with
tick-short [] h = refl
tick-short (b ∷ []) h = rw and-false
tick-short (a ∷ b ∷ s) h = absurd (omega arith)

-- the loop: two bytes that decide, two that do not, less than two
module _ (s : List ℕ) where
  module _ (h : 2 ≤ length s) where
    pair-at : s ≡ get_or s 0 0 ∷ get_or s 1 0 ∷ drop 2 s
    pair-at = next s 0 (omega arith) ∙ ap (λ t. get_or s 0 0 ∷ t) (next s 1 (omega arith))

    pub ticks-stop : get_or s 0 0 ≡ backtick → get_or s 1 0 ≡ dollar → true ≡ holds_backtick_dollar s
    ticks-stop e f = sym (ap holds_backtick_dollar pair-at ∙ tick-pair (get_or s 0 0) (get_or s 1 0) (drop 2 s) (rw (eq-eqb _ _ e, eq-eqb _ _ f) refl))

    ticks-one : (eqb (get_or s 0 0) backtick && eqb (get_or s 1 0) dollar) ≡ false → holds_backtick_dollar s ≡ holds_backtick_dollar (drop 1 s)
    ticks-one e = ap holds_backtick_dollar pair-at ∙ tick-one (get_or s 0 0) (get_or s 1 0) (drop 2 s) e ∙ sym (ap holds_backtick_dollar (next s 1 (omega arith)))

    pub ticks-first : (get_or s 0 0 ≡ backtick → ⊥) → holds_backtick_dollar s ≡ holds_backtick_dollar (drop 1 s)
    ticks-first n = ticks-one (rw (ne_eqb _ _ n) refl)

    pub ticks-second : (get_or s 1 0 ≡ dollar → ⊥) → holds_backtick_dollar s ≡ holds_backtick_dollar (drop 1 s)
    ticks-second n = ticks-one (rw (ne_eqb _ _ n) (and-false (eqb (get_or s 0 0) backtick)))

  pub ticks-end : length s < 2 → false ≡ holds_backtick_dollar s
  ticks-end h = sym (tick-short s (omega arith))

-- no backtick
pub ticks-leap : {s rest : List ℕ} → Skipped (is_other backtick) s rest → holds_backtick_dollar s ≡ holds_backtick_dollar rest
ticks-leap p = leap (is_other backtick) holds_backtick_dollar (λ b t q. tick-none b t (not-true (eqb b backtick) q)) p

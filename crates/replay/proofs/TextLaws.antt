-- Answers compared with their bits.
use mathlib.Core.Path.{◌≡◌, refl, sym, ap, ◌∙◌}
use mathlib.Core.Bool.{Bool}
use mathlib.Core.List.{List}
use Prim.Native.Nat.{ℕ, suc, ◌+◌, ◌<◌, ◌≤◌}
use native.Mathlib.Numerals.{add-one}
use borrow.Author.Rules.{rules}
use lib.ListN.{length, get_or, drop, drop_of_length-le}
use lib.Seq.{drop-cons}
use Rattle.replay.specs.declared.tally.Tally.{Tally}
use Rattle.replay.specs.Texts.{compared_with_bit, compared_bits}

-- the answers before k are compared, and those from k on decide the whole
pub record Comparing (answers : List Bool) (mask bits : ℕ) (t : Tally) (k : ℕ) (u : Tally) : Type 0 where
  pub same : compared_bits answers 0 mask bits t ≡ compared_bits (drop k answers) k mask bits u

pub bits-start : (answers : List Bool) (mask bits : ℕ) (t : Tally) → Comparing answers mask bits t 0 t
bits-start answers mask bits t = record { same = refl }

pub bits-turn : {answers : List Bool} {mask bits : ℕ} {t u : Tally} {k : ℕ} → Comparing answers mask bits t k u → k < length answers → (d : Bool) (v : Tally) → v ≡ compared_with_bit mask bits k (get_or answers k d) u → Comparing answers mask bits t (k + 1) v
unfolding compared_bits
bits-turn {answers} {mask} {bits} {t} {u} {k} inv h d v e =
    record {
      same =
          inv.same
          ∙ ap (λ (l : List Bool). compared_bits l k mask bits u) (drop-cons answers k d h)
          ∙ rw (add-one k) (ap (λ (w : Tally). compared_bits (drop (suc k) answers) (suc k) mask bits w) (sym e));
    }

pub bits-end : {answers : List Bool} {mask bits : ℕ} {t u : Tally} {k : ℕ} → Comparing answers mask bits t k u → length answers ≤ k → u ≡ compared_bits answers 0 mask bits t
unfolding compared_bits
bits-end {answers} {mask} {bits} {t} {u} {k} inv h = sym (inv.same ∙ rw (drop_of_length-le answers {i = k} h))

pub ruleset texts = (bits-start, bits-turn, bits-end, rules)

-- Loops over words: one that fills them, and one that compares them.
use mathlib.Core.Path.{◌≡◌, refl, sym, ap, ◌∙◌}
use mathlib.Core.Bool.{true, false}
use mathlib.Core.List.{List}
use Prim.Native.Nat.{ℕ, ◌+◌, ◌<◌, ◌≤◌}
use native.Mathlib.Numerals.{add-one}
use native.Mathlib.Omega.{arith}
use borrow.Author.Rules.{rules}
use borrow.Author.Tests.{eq-eqb, ne_eqb}
use lib.ListN.{length, take, drop, get_or, set, length-set, drop_of_length-le}
use lib.Seq.{take-suc-set, take_all}
use Rattle.leaves.proofs.text.ScanLaws.{next}
use Rattle.replay.specs.Words.{up_to, agrees_from}

-- the first k words are what `f` gives at their places
pub record Filling (f : ℕ → ℕ) (old new : List ℕ) (k : ℕ) : Type 0 where
  pub long : length new ≡ length old
  pub within : k ≤ length old
  pub front : take k new ≡ up_to k f

pub fill_start : (f : ℕ → ℕ) (old : List ℕ) → Filling f old old 0
unfolding up_to
fill_start f old = record { long = refl; within = omega arith; front = refl }

pub fill-turn : (f : ℕ → ℕ) (old new : List ℕ) (k v : ℕ) → Filling f old new k → k < length new → v ≡ f k → Filling f old (set new k v) (k + 1)
unfolding up_to
fill-turn f old new k v inv h e =
    record {
      long = length-set new k v ∙ inv.long;
      within = omega (arith, inv.long);
      front = rw (add-one k, take-suc-set new k v h, inv.front, e);
    }

pub fill_end : (f : ℕ → ℕ) (old new : List ℕ) (k : ℕ) → Filling f old new k → length new ≤ k → new ≡ up_to (length old) f
fill_end f old new k inv h =
    let e : k ≡ length old = omega (arith, inv.long, inv.within) in
    sym (take_all k new h) ∙ inv.front ∙ ap (λ (n : ℕ). up_to n f) e

-- the first i numbers agree with `f`
pub record Agreeing (f : ℕ → ℕ) (l : List ℕ) (i : ℕ) : Type 0 where
  pub within : i ≤ length l
  pub same : agrees_from f 0 l ≡ agrees_from f i (drop i l)

pub agree-start : (f : ℕ → ℕ) (l : List ℕ) → Agreeing f l 0
agree-start f l = record { within = omega arith; same = refl }

module _ (f : ℕ → ℕ) (l : List ℕ) (i v : ℕ) (inv : Agreeing f l i) (h : i < length l) (e : v ≡ f i) where
  pub agree-turn : get_or l i 0 ≡ v → Agreeing f l (i + 1)
  unfolding agrees_from
  agree-turn p =
      record {
        within = omega arith;
        same = inv.same ∙ ap (agrees_from f i) (next l i h) ∙ rw (eq-eqb (get_or l i 0) (f i) (p ∙ e), add-one i);
      }

  pub agree-stop : (get_or l i 0 ≡ v → ⊥) → false ≡ agrees_from f 0 l
  unfolding agrees_from
  agree-stop p = sym (inv.same ∙ ap (agrees_from f i) (next l i h) ∙ rw (ne_eqb (get_or l i 0) (f i) (λ q. p (q ∙ sym e))))

pub agree-end : (f : ℕ → ℕ) (l : List ℕ) (i : ℕ) → Agreeing f l i → length l ≤ i → true ≡ agrees_from f 0 l
unfolding agrees_from
agree-end f l i inv h = sym (inv.same ∙ ap (agrees_from f i) (drop_of_length-le l {i = i} h))

pub ruleset words = (fill_start, fill-turn, fill_end, agree-start, agree-turn, agree-stop, agree-end, rules)

-- Calls with a long sheet or a long text.
use mathlib.Core.Path.{◌≡◌, refl, sym, ap, subst, ◌∙◌}
use mathlib.Core.List.{List}
use Prim.Native.Nat.{ℕ}
use lib.ListN.{length, length-replicate}
use Rattle.replay.specs.File.{AddsFile}
use Rattle.replay.specs.declared.tally.Tally.{Tally}
use Rattle.replay.specs.Long.{breaks_of, long_words, unfilled, zeros, call_replayed, long_replayed}
use Rattle.std.proofs.lemmas.Result.{IfOk-weaker}
use Rattle.std.specs.Prelude.{Result, Vec, IfOk, replicate}

-- A vector that is made of n zeros. It is stated of every n, so that no list of that length is computed.
pub all-zeros : {A E : Type 0} (r : Result (Vec ℕ A) E) (n : ℕ) (whole : List ℕ) → whole ≡ replicate n 0 → IfOk r (λ v. ((y : ℕ) → y ≡ 0 → y ≡ 0) → v.items ≡ replicate n 0) → IfOk r (λ v. v.items ≡ whole)
all-zeros r n whole e h = IfOk-weaker r _ _ (λ v f. f (λ y same. same) ∙ sym e) h

pub unfilled-zeros : unfilled ≡ replicate long_words 0
unfolding unfilled
unfilled-zeros = refl

pub text-zeros : zeros ≡ replicate 16777217 0
unfolding zeros
text-zeros = refl

-- stated of every n, so that no list of that length is computed
as_long : (n : ℕ) (old : List ℕ) → old ≡ replicate n 0 → length old ≡ n
as_long n old e = ap length e ∙ length-replicate n 0

unfilled-long : (old : List ℕ) → old ≡ unfilled → length old ≡ long_words
unfolding unfilled
unfilled-long old e = as_long long_words old e

-- the long sheet is filled in its whole length
pub add-calls : (old sheet text : List ℕ) (total t : Tally) → AddsFile (λ r u. call_replayed r sheet text u) total t → sheet ≡ breaks_of (length old) → old ≡ unfilled → text ≡ zeros → AddsFile long_replayed total t
add-calls old sheet text total t h b o z =
    let e : sheet ≡ breaks_of long_words = b ∙ ap breaks_of (unfilled-long old o) in
    subst (λ (s : List ℕ). AddsFile (λ r u. call_replayed r s zeros u) total t) e (subst (λ (s : List ℕ). AddsFile (λ r u. call_replayed r sheet s u) total t) z h)

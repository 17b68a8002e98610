-- What chains of iterators over a text answer.
use mathlib.Core.Path.{◌≡◌, refl, ◌∙◌}
use mathlib.Core.Bool.{Bool, true, false, cond}
use mathlib.Core.List.{List, [], ◌∷◌}
use Prim.Native.Nat.{ℕ, ◌-◌, ◌≤◌}
use lib.Dec.{ltb}
use borrow.Author.Tests.{ltb-false}
use native.Mathlib.Omega.{arith}
use lib.ListN.{length, take, drop, length-drop}
use lib.Seq.{take_all}
use denote.Param.Members.{Mut}
use denote.Ref.{Bor}
use Rattle.std.proofs.iter.Yields.{fronts}
use Rattle.std.proofs.lemmas.Iterator.{YieldsList-from_slice}
use Rattle.std.proofs.lemmas.Iterator.Search.{all_from_yields_List, any_from_yields_List, position_from_yields_List}
use Rattle.std.specs.Fn.{Called}
use Rattle.std.specs.Iterator.{YieldsThen}
use Rattle.std.specs.List.{list_all, list_any, position_or_len, FoldsTo}
use Rattle.std.specs.Option.{MatchOption, unwrap_or}
use Rattle.std.specs.Slice.Iter.{iter_rest}
use Rattle.std.proofs.Common.{Iter, Option, Some, None}

-- what `all` and `any` of a closure that computes the test answer, over a slice
module _ {F : Type 0} {g : Mut F (Bor ℕ × Unit {0}) Bool} {s : Iter ℕ} (test : ℕ → Bool) (whole : List ℕ) {u : Iter ℕ} {f : F} {r : Bool} where
  pub all-of : (xs : List (Bor ℕ)) × (o : Option (Bor ℕ)) × (j : F) × YieldsThen fronts s xs o u × FoldsTo (λ p x q. Called g p (x, tt) true q) f xs j × MatchOption o (r ≡ true) (λ x. (r ≡ false) × ((h : F) × Called g j (x, tt) false h)) → iter_rest s ≡ whole → ((x : Bor ℕ) (b : Bool) (q : F) → Called g f (x, tt) b q → (q ≡ f) × (b ≡ test x.now)) → r ≡ list_all test whole
  all-of ran is calls = all_from_yields_List test _ _ _ ran (YieldsList-from_slice whole is) calls

  pub any-of : (xs : List (Bor ℕ)) × (o : Option (Bor ℕ)) × (j : F) × YieldsThen fronts s xs o u × FoldsTo (λ p x q. Called g p (x, tt) false q) f xs j × MatchOption o (r ≡ false) (λ x. (r ≡ true) × ((h : F) × Called g j (x, tt) true h)) → iter_rest s ≡ whole → ((x : Bor ℕ) (b : Bool) (q : F) → Called g f (x, tt) b q → (q ≡ f) × (b ≡ test x.now)) → r ≡ list_any test whole
  any-of ran is calls = any_from_yields_List test _ _ _ ran (YieldsList-from_slice whole is) calls

-- the slice of all that stands from i on
pub tail-all : (s : List ℕ) (i : ℕ) → take (length s - i) (drop i s) ≡ drop i s
tail-all s i = take_all (length s - i) (drop i s) (rw (length-drop i s) (omega arith))

position-most : {A : Type 0} (test : A → Bool) (s : List A) → position_or_len test s ≤ length s
position-most test [] = omega arith
position-most test (b ∷ s) = go (test b) refl (position-most test s)
  where
    go : (t : Bool) → test b ≡ t → position_or_len test s ≤ length s → position_or_len test (b ∷ s) ≤ length (b ∷ s)
    go true e h = rw e (omega arith)
    go false e h = rw e (omega arith)

-- the place that `position` finds, or the length where it finds none
first-at : {n length : ℕ} {o : Option ℕ} (k : ℕ) → k ≤ length → o ≡ cond (ltb k length) (Some k) None → n ≡ unwrap_or o length → n ≡ k
first-at {n} {length} k h e u = go (ltb k length) refl
  where
    go : (t : Bool) → ltb k length ≡ t → n ≡ k
    go true l = let f : n ≡ unwrap_or (cond (ltb k length) (Some k) None) length = rw e at u in rw l at f
    go false l = let f : n ≡ unwrap_or (cond (ltb k length) (Some k) None) length = rw e at u in (rw l at f) ∙ (let m : length ≤ k = ltb-false k length l in omega arith)

module _ {F : Type 0} {g : Mut F (Bor ℕ × Unit {0}) Bool} {s : Iter ℕ} (test : ℕ → Bool) (whole : List ℕ) {u : Iter ℕ} {f : F} {r : Option ℕ} {n : ℕ} where
  pub first-of : (xs : List (Bor ℕ)) × (o : Option (Bor ℕ)) × (j : F) × YieldsThen fronts s xs o u × FoldsTo (λ p x q. Called g p (x, tt) false q) f xs j × MatchOption o (r ≡ None) (λ x. (r ≡ Some (length xs)) × ((h : F) × Called g j (x, tt) true h)) → iter_rest s ≡ whole → ((x : Bor ℕ) (b : Bool) (q : F) → Called g f (x, tt) b q → (q ≡ f) × (b ≡ test x.now)) → n ≡ unwrap_or r (length whole) → n ≡ position_or_len test whole
  first-of ran is calls = first-at (position_or_len test whole) (position-most test whole) (position_from_yields_List test _ _ _ ran (YieldsList-from_slice whole is) calls)

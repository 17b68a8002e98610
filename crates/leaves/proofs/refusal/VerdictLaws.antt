-- The number of an answer tells whether it is a refusal, and number and record tell which; the first of two that is a refusal.
use Rattle.std.specs.Prelude.{Err, Ok, is_ok}
use mathlib.Core.Path.{◌≡◌, refl, sym, ap, ◌∙◌}
use mathlib.Core.Bool.{Bool, true, false, false≢true}
use mathlib.Core.List.{[], ◌∷◌}
use Prim.Native.Nat.{ℕ, ◌<◌, ◌≤◌}
use native.Mathlib.Omega.{arith}
use lib.ListN.{get_or}
use Rattle.leaves.specs.Refusal.Verdict.{Answer, Judged, refusal_answer, judged_answer, or_else}
use Rattle.leaves.specs.declared.refusal.verdict.Malformed.{Malformed}
use Rattle.leaves.specs.declared.refusal.verdict.Malformed.TheVariants.{OddSheet, LongSheet, LongText, UnknownKind, BadLevel, Misplaced, BadField, TextOutside, NotUtf8, TagsMissing}

-- ---- a refusal's number is one of 1 to 10
pub record Numbered (n : ℕ) : Type 0 where
  pub some : 0 < n
  pub most : n ≤ 10

pub refusal-numbered : (r : Malformed) → Numbered (refusal_answer r).number
refusal-numbered OddSheet = record { some = omega arith; most = omega arith }
refusal-numbered LongSheet = record { some = omega arith; most = omega arith }
refusal-numbered LongText = record { some = omega arith; most = omega arith }
refusal-numbered (UnknownKind i) = record { some = omega arith; most = omega arith }
refusal-numbered (BadLevel i) = record { some = omega arith; most = omega arith }
refusal-numbered (Misplaced i) = record { some = omega arith; most = omega arith }
refusal-numbered (BadField i) = record { some = omega arith; most = omega arith }
refusal-numbered (TextOutside i) = record { some = omega arith; most = omega arith }
refusal-numbered (NotUtf8 i) = record { some = omega arith; most = omega arith }
refusal-numbered (TagsMissing i) = record { some = omega arith; most = omega arith }

pub none-refused : (j : Judged) → (judged_answer j).number ≡ 0 → j ≡ Ok tt
none-refused (Ok tt) e = refl
none-refused (Err r) e = absurd (omega (arith, (refusal-numbered r).some))

pub is-accepted : (j : Judged) → is_ok j ≡ true → j ≡ Ok tt
is-accepted (Ok tt) h = refl
is-accepted (Err r) h = absurd (false≢true h)

-- ---- number and record tell which answer it is
pub same_number : {a b : Answer} → a ≡ b → a.number ≡ b.number
same_number e = ap (λ (a : Answer). a.number) e

pub same-value : {a b : Answer} → a ≡ b → a.value ≡ b.value
same-value e = ap (λ (a : Answer). a.value) e

read : Answer → Judged
read a = get_or (Ok tt ∷ Err OddSheet ∷ Err LongSheet ∷ Err LongText ∷ Err (UnknownKind a.value) ∷ Err (BadLevel a.value) ∷ Err (Misplaced a.value) ∷ Err (BadField a.value) ∷ Err (TextOutside a.value) ∷ Err (NotUtf8 a.value) ∷ Err (TagsMissing a.value) ∷ []) a.number (Ok tt)

refusal-back : (r : Malformed) → read (refusal_answer r) ≡ Err r
unfolding read
refusal-back OddSheet = refl
refusal-back LongSheet = refl
refusal-back LongText = refl
refusal-back (UnknownKind i) = refl
refusal-back (BadLevel i) = refl
refusal-back (Misplaced i) = refl
refusal-back (BadField i) = refl
refusal-back (TextOutside i) = refl
refusal-back (NotUtf8 i) = refl
refusal-back (TagsMissing i) = refl

judged-back : (j : Judged) → read (judged_answer j) ≡ j
unfolding read
judged-back (Ok tt) = refl
judged-back (Err r) = refusal-back r

pub judged-one : (j k : Judged) → judged_answer j ≡ judged_answer k → j ≡ k
judged-one j k e = sym (judged-back j) ∙ ap read e ∙ judged-back k

pub refusal-one : (r s : Malformed) → refusal_answer r ≡ refusal_answer s → r ≡ s
refusal-one r s e = let same : Err r ≡ Err s = judged-one (Err r) (Err s) e in cc

-- ---- one answer, or another after it
pub or-first : (j k : Judged) → is_ok j ≡ false → or_else j k ≡ j
unfolding or_else
or-first j k e = rw e

pub or-second : (j k : Judged) → is_ok j ≡ true → or_else j k ≡ k
unfolding or_else
or-second j k e = rw e

-- both are accepted where the first that is given is
pub both_first : (j k : Judged) → is_ok (or_else j k) ≡ true → is_ok j ≡ true
unfolding or_else
both_first j k h = go (is_ok j) refl
  where
    go : (t : Bool) → is_ok j ≡ t → is_ok j ≡ true
    go true e = e
    go false e = absurd (false≢true (sym e ∙ (rw e at h)))

pub both-second : (j k : Judged) → is_ok (or_else j k) ≡ true → is_ok k ≡ true
both-second j k h = rw (or-second j k (both_first j k h)) at h

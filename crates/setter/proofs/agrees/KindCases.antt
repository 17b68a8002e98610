-- The kinds by cases, and what is common to the inlines, to the blocks, and to tags and attributes.
use mathlib.Core.Path.{◌≡◌, refl, sym}
use mathlib.Core.Logic.{◌⊎◌, inl, inr, ⊎_elim}
use mathlib.Core.Bool.{Bool, true, false, not, ◌||◌, true≢false}
use mathlib.Core.List.{List, [], ◌∷◌}
use Prim.Native.Nat.{ℕ, ◌≤◌, ◌<◌}
use native.Mathlib.Omega.{arith}
use lib.Dec.{leb, eqb}
use borrow.Author.Tests.{eqb-true, leb-true}
use Rattle.std.specs.Prelude.{if◌then◌else◌}
use Rattle.leaves.proofs.text.TestLaws.{all_below, each, and_right}
use Rattle.leaves.specs.Sheet.Kinds.{is_block, is_inline, html_tag, attribute, blank_line, list}
use Rattle.setter.specs.Machine.{in_path}
use Rattle.leaves.specs.Sheet.Classes.{is_break, is_link}

-- tags and attributes, then inlines, then blocks and the others
unfoldable pub rank : ℕ → ℕ
rank k = if eqb k html_tag || eqb k attribute then 0 else if is_inline k then 1 else 2

abbrev one_of : ℕ → List ℕ → Bool
one_of n [] = false
one_of n (m ∷ ms) = eqb n m || one_of n ms

pub or_cases : (a b : Bool) → (a || b) ≡ true → (a ≡ true) ⊎ (b ≡ true)
or_cases true b h = inl refl
or_cases false b h = inr h

-- what a test says of one sort of kinds, it says of each
of_test : (ℕ → Bool) → (ℕ → Bool) → ℕ → Bool
of_test sort test k = not (sort k) || test k

of-sort : (sort test : ℕ → Bool) → all_below (of_test sort test) 54 ≡ true → (k : ℕ) → k < 54 → sort k ≡ true → test k ≡ true
unfolding of_test
of-sort sort test e k h s = rw s at (each (of_test sort test) 54 e k h)

inline-below : (k : ℕ) → is_inline k ≡ true → k < 54
inline-below k h = let a : k ≤ 53 = leb-true k 53 (and_right (leb 31 k) _ h) in omega arith

block-below : (k : ℕ) → is_block k ≡ true → k < 54
block-below k h = let a : k ≤ 17 = leb-true k 17 (and_right (leb 1 k) _ h) in omega arith

pub data InlineKind (k : ℕ) : Type 0 where
  i31 : k ≡ 31 → InlineKind k
  i32 : k ≡ 32 → InlineKind k
  i33 : k ≡ 33 → InlineKind k
  i34 : k ≡ 34 → InlineKind k
  i35 : k ≡ 35 → InlineKind k
  i36 : k ≡ 36 → InlineKind k
  i37 : k ≡ 37 → InlineKind k
  i38 : k ≡ 38 → InlineKind k
  i39 : k ≡ 39 → InlineKind k
  i40 : k ≡ 40 → InlineKind k
  i41 : k ≡ 41 → InlineKind k
  i42 : k ≡ 42 → InlineKind k
  i43 : k ≡ 43 → InlineKind k
  i44 : k ≡ 44 → InlineKind k
  i45 : k ≡ 45 → InlineKind k
  i46 : k ≡ 46 → InlineKind k
  i47 : k ≡ 47 → InlineKind k
  i48 : k ≡ 48 → InlineKind k
  i49 : k ≡ 49 → InlineKind k
  i50 : k ≡ 50 → InlineKind k
  i51 : k ≡ 51 → InlineKind k
  i52 : k ≡ 52 → InlineKind k
  i53 : k ≡ 53 → InlineKind k

inline-kind-one : (k : ℕ) → one_of k (31 ∷ 32 ∷ 33 ∷ 34 ∷ 35 ∷ 36 ∷ 37 ∷ 38 ∷ 39 ∷ 40 ∷ 41 ∷ 42 ∷ 43 ∷ 44 ∷ 45 ∷ 46 ∷ 47 ∷ 48 ∷ 49 ∷ 50 ∷ 51 ∷ 52 ∷ 53 ∷ []) ≡ true → InlineKind k
inline-kind-one k h =
    ⊎_elim (λ e. i31 (eqb-true _ _ e)) (λ h.
    ⊎_elim (λ e. i32 (eqb-true _ _ e)) (λ h.
    ⊎_elim (λ e. i33 (eqb-true _ _ e)) (λ h.
    ⊎_elim (λ e. i34 (eqb-true _ _ e)) (λ h.
    ⊎_elim (λ e. i35 (eqb-true _ _ e)) (λ h.
    ⊎_elim (λ e. i36 (eqb-true _ _ e)) (λ h.
    ⊎_elim (λ e. i37 (eqb-true _ _ e)) (λ h.
    ⊎_elim (λ e. i38 (eqb-true _ _ e)) (λ h.
    ⊎_elim (λ e. i39 (eqb-true _ _ e)) (λ h.
    ⊎_elim (λ e. i40 (eqb-true _ _ e)) (λ h.
    ⊎_elim (λ e. i41 (eqb-true _ _ e)) (λ h.
    ⊎_elim (λ e. i42 (eqb-true _ _ e)) (λ h.
    ⊎_elim (λ e. i43 (eqb-true _ _ e)) (λ h.
    ⊎_elim (λ e. i44 (eqb-true _ _ e)) (λ h.
    ⊎_elim (λ e. i45 (eqb-true _ _ e)) (λ h.
    ⊎_elim (λ e. i46 (eqb-true _ _ e)) (λ h.
    ⊎_elim (λ e. i47 (eqb-true _ _ e)) (λ h.
    ⊎_elim (λ e. i48 (eqb-true _ _ e)) (λ h.
    ⊎_elim (λ e. i49 (eqb-true _ _ e)) (λ h.
    ⊎_elim (λ e. i50 (eqb-true _ _ e)) (λ h.
    ⊎_elim (λ e. i51 (eqb-true _ _ e)) (λ h.
    ⊎_elim (λ e. i52 (eqb-true _ _ e)) (λ h.
    ⊎_elim (λ e. i53 (eqb-true _ _ e)) (λ h.
    absurd (true≢false (sym h))) (or_cases _ _ h)) (or_cases _ _ h)) (or_cases _ _ h)) (or_cases _ _ h)) (or_cases _ _ h)) (or_cases _ _ h)) (or_cases _ _ h)) (or_cases _ _ h)) (or_cases _ _ h)) (or_cases _ _ h)) (or_cases _ _ h)) (or_cases _ _ h)) (or_cases _ _ h)) (or_cases _ _ h)) (or_cases _ _ h)) (or_cases _ _ h)) (or_cases _ _ h)) (or_cases _ _ h)) (or_cases _ _ h)) (or_cases _ _ h)) (or_cases _ _ h)) (or_cases _ _ h)) (or_cases _ _ h)

pub inline-kind : (k : ℕ) → is_inline k ≡ true → InlineKind k
unfolding all_below of_test
inline-kind k h = inline-kind-one k (of-sort is_inline (λ n. one_of n (31 ∷ 32 ∷ 33 ∷ 34 ∷ 35 ∷ 36 ∷ 37 ∷ 38 ∷ 39 ∷ 40 ∷ 41 ∷ 42 ∷ 43 ∷ 44 ∷ 45 ∷ 46 ∷ 47 ∷ 48 ∷ 49 ∷ 50 ∷ 51 ∷ 52 ∷ 53 ∷ [])) refl k (inline-below k h) h)

pub data BlockKind (k : ℕ) : Type 0 where
  b1 : k ≡ 1 → BlockKind k
  b2 : k ≡ 2 → BlockKind k
  b3 : k ≡ 3 → BlockKind k
  b4 : k ≡ 4 → BlockKind k
  b5 : k ≡ 5 → BlockKind k
  b6 : k ≡ 6 → BlockKind k
  b7 : k ≡ 7 → BlockKind k
  b8 : k ≡ 8 → BlockKind k
  b9 : k ≡ 9 → BlockKind k
  b10 : k ≡ 10 → BlockKind k
  b11 : k ≡ 11 → BlockKind k
  b12 : k ≡ 12 → BlockKind k
  b13 : k ≡ 13 → BlockKind k
  b14 : k ≡ 14 → BlockKind k
  b15 : k ≡ 15 → BlockKind k
  b16 : k ≡ 16 → BlockKind k
  b17 : k ≡ 17 → BlockKind k

block-kind-one : (k : ℕ) → one_of k (1 ∷ 2 ∷ 3 ∷ 4 ∷ 5 ∷ 6 ∷ 7 ∷ 8 ∷ 9 ∷ 10 ∷ 11 ∷ 12 ∷ 13 ∷ 14 ∷ 15 ∷ 16 ∷ 17 ∷ []) ≡ true → BlockKind k
block-kind-one k h =
    ⊎_elim (λ e. b1 (eqb-true _ _ e)) (λ h.
    ⊎_elim (λ e. b2 (eqb-true _ _ e)) (λ h.
    ⊎_elim (λ e. b3 (eqb-true _ _ e)) (λ h.
    ⊎_elim (λ e. b4 (eqb-true _ _ e)) (λ h.
    ⊎_elim (λ e. b5 (eqb-true _ _ e)) (λ h.
    ⊎_elim (λ e. b6 (eqb-true _ _ e)) (λ h.
    ⊎_elim (λ e. b7 (eqb-true _ _ e)) (λ h.
    ⊎_elim (λ e. b8 (eqb-true _ _ e)) (λ h.
    ⊎_elim (λ e. b9 (eqb-true _ _ e)) (λ h.
    ⊎_elim (λ e. b10 (eqb-true _ _ e)) (λ h.
    ⊎_elim (λ e. b11 (eqb-true _ _ e)) (λ h.
    ⊎_elim (λ e. b12 (eqb-true _ _ e)) (λ h.
    ⊎_elim (λ e. b13 (eqb-true _ _ e)) (λ h.
    ⊎_elim (λ e. b14 (eqb-true _ _ e)) (λ h.
    ⊎_elim (λ e. b15 (eqb-true _ _ e)) (λ h.
    ⊎_elim (λ e. b16 (eqb-true _ _ e)) (λ h.
    ⊎_elim (λ e. b17 (eqb-true _ _ e)) (λ h.
    absurd (true≢false (sym h))) (or_cases _ _ h)) (or_cases _ _ h)) (or_cases _ _ h)) (or_cases _ _ h)) (or_cases _ _ h)) (or_cases _ _ h)) (or_cases _ _ h)) (or_cases _ _ h)) (or_cases _ _ h)) (or_cases _ _ h)) (or_cases _ _ h)) (or_cases _ _ h)) (or_cases _ _ h)) (or_cases _ _ h)) (or_cases _ _ h)) (or_cases _ _ h)) (or_cases _ _ h)

pub block-kind : (k : ℕ) → is_block k ≡ true → BlockKind k
unfolding all_below of_test
block-kind k h = block-kind-one k (of-sort is_block (λ n. one_of n (1 ∷ 2 ∷ 3 ∷ 4 ∷ 5 ∷ 6 ∷ 7 ∷ 8 ∷ 9 ∷ 10 ∷ 11 ∷ 12 ∷ 13 ∷ 14 ∷ 15 ∷ 16 ∷ 17 ∷ [])) refl k (block-below k h) h)

pub record Inliny (k : ℕ) : Type 0 where
  pub no_block : is_block k ≡ false
  pub an_inline : is_inline k ≡ true
  pub no_index : in_path k ≡ false
  pub no_blank : eqb k blank_line ≡ false
  pub no_list : eqb k list ≡ false
  pub is_second : rank k ≡ 1

pub inliny : (k : ℕ) → InlineKind k → Inliny k
unfolding rank
inliny k kd = go kd
  where
    one : (n : ℕ) → k ≡ n → Inliny n → Inliny k
    one n e b = rw e b

    go : InlineKind k → Inliny k
    go (i31 e) = one 31 e (record { no_block = refl; an_inline = refl; no_index = refl; no_blank = refl; no_list = refl; is_second = refl })
    go (i32 e) = one 32 e (record { no_block = refl; an_inline = refl; no_index = refl; no_blank = refl; no_list = refl; is_second = refl })
    go (i33 e) = one 33 e (record { no_block = refl; an_inline = refl; no_index = refl; no_blank = refl; no_list = refl; is_second = refl })
    go (i34 e) = one 34 e (record { no_block = refl; an_inline = refl; no_index = refl; no_blank = refl; no_list = refl; is_second = refl })
    go (i35 e) = one 35 e (record { no_block = refl; an_inline = refl; no_index = refl; no_blank = refl; no_list = refl; is_second = refl })
    go (i36 e) = one 36 e (record { no_block = refl; an_inline = refl; no_index = refl; no_blank = refl; no_list = refl; is_second = refl })
    go (i37 e) = one 37 e (record { no_block = refl; an_inline = refl; no_index = refl; no_blank = refl; no_list = refl; is_second = refl })
    go (i38 e) = one 38 e (record { no_block = refl; an_inline = refl; no_index = refl; no_blank = refl; no_list = refl; is_second = refl })
    go (i39 e) = one 39 e (record { no_block = refl; an_inline = refl; no_index = refl; no_blank = refl; no_list = refl; is_second = refl })
    go (i40 e) = one 40 e (record { no_block = refl; an_inline = refl; no_index = refl; no_blank = refl; no_list = refl; is_second = refl })
    go (i41 e) = one 41 e (record { no_block = refl; an_inline = refl; no_index = refl; no_blank = refl; no_list = refl; is_second = refl })
    go (i42 e) = one 42 e (record { no_block = refl; an_inline = refl; no_index = refl; no_blank = refl; no_list = refl; is_second = refl })
    go (i43 e) = one 43 e (record { no_block = refl; an_inline = refl; no_index = refl; no_blank = refl; no_list = refl; is_second = refl })
    go (i44 e) = one 44 e (record { no_block = refl; an_inline = refl; no_index = refl; no_blank = refl; no_list = refl; is_second = refl })
    go (i45 e) = one 45 e (record { no_block = refl; an_inline = refl; no_index = refl; no_blank = refl; no_list = refl; is_second = refl })
    go (i46 e) = one 46 e (record { no_block = refl; an_inline = refl; no_index = refl; no_blank = refl; no_list = refl; is_second = refl })
    go (i47 e) = one 47 e (record { no_block = refl; an_inline = refl; no_index = refl; no_blank = refl; no_list = refl; is_second = refl })
    go (i48 e) = one 48 e (record { no_block = refl; an_inline = refl; no_index = refl; no_blank = refl; no_list = refl; is_second = refl })
    go (i49 e) = one 49 e (record { no_block = refl; an_inline = refl; no_index = refl; no_blank = refl; no_list = refl; is_second = refl })
    go (i50 e) = one 50 e (record { no_block = refl; an_inline = refl; no_index = refl; no_blank = refl; no_list = refl; is_second = refl })
    go (i51 e) = one 51 e (record { no_block = refl; an_inline = refl; no_index = refl; no_blank = refl; no_list = refl; is_second = refl })
    go (i52 e) = one 52 e (record { no_block = refl; an_inline = refl; no_index = refl; no_blank = refl; no_list = refl; is_second = refl })
    go (i53 e) = one 53 e (record { no_block = refl; an_inline = refl; no_index = refl; no_blank = refl; no_list = refl; is_second = refl })

pub record Blocky (k : ℕ) : Type 0 where
  pub a_block : is_block k ≡ true
  pub is_indexed : in_path k ≡ true
  pub no_inline : is_inline k ≡ false
  pub is_last : rank k ≡ 2

pub blocky : (k : ℕ) → BlockKind k → Blocky k
unfolding rank
blocky k kd = go kd
  where
    one : (n : ℕ) → k ≡ n → Blocky n → Blocky k
    one n e b = rw e b

    go : BlockKind k → Blocky k
    go (b1 e) = one 1 e (record { a_block = refl; is_indexed = refl; no_inline = refl; is_last = refl })
    go (b2 e) = one 2 e (record { a_block = refl; is_indexed = refl; no_inline = refl; is_last = refl })
    go (b3 e) = one 3 e (record { a_block = refl; is_indexed = refl; no_inline = refl; is_last = refl })
    go (b4 e) = one 4 e (record { a_block = refl; is_indexed = refl; no_inline = refl; is_last = refl })
    go (b5 e) = one 5 e (record { a_block = refl; is_indexed = refl; no_inline = refl; is_last = refl })
    go (b6 e) = one 6 e (record { a_block = refl; is_indexed = refl; no_inline = refl; is_last = refl })
    go (b7 e) = one 7 e (record { a_block = refl; is_indexed = refl; no_inline = refl; is_last = refl })
    go (b8 e) = one 8 e (record { a_block = refl; is_indexed = refl; no_inline = refl; is_last = refl })
    go (b9 e) = one 9 e (record { a_block = refl; is_indexed = refl; no_inline = refl; is_last = refl })
    go (b10 e) = one 10 e (record { a_block = refl; is_indexed = refl; no_inline = refl; is_last = refl })
    go (b11 e) = one 11 e (record { a_block = refl; is_indexed = refl; no_inline = refl; is_last = refl })
    go (b12 e) = one 12 e (record { a_block = refl; is_indexed = refl; no_inline = refl; is_last = refl })
    go (b13 e) = one 13 e (record { a_block = refl; is_indexed = refl; no_inline = refl; is_last = refl })
    go (b14 e) = one 14 e (record { a_block = refl; is_indexed = refl; no_inline = refl; is_last = refl })
    go (b15 e) = one 15 e (record { a_block = refl; is_indexed = refl; no_inline = refl; is_last = refl })
    go (b16 e) = one 16 e (record { a_block = refl; is_indexed = refl; no_inline = refl; is_last = refl })
    go (b17 e) = one 17 e (record { a_block = refl; is_indexed = refl; no_inline = refl; is_last = refl })

-- a tag or an attribute
pub data Extra (k : ℕ) : Type 0 where
  tag : k ≡ html_tag → Extra k
  attr : k ≡ attribute → Extra k

pub record Extras (k : ℕ) : Type 0 where
  pub no_block : is_block k ≡ false
  pub no_inline : is_inline k ≡ false
  pub no_index : in_path k ≡ false
  pub no_blank : eqb k blank_line ≡ false
  pub no_list : eqb k list ≡ false
  pub no_break : is_break k ≡ false
  pub no_link : is_link k ≡ false
  pub is_first : rank k ≡ 0

pub extras : (k : ℕ) → Extra k → Extras k
unfolding rank
extras k (tag e) = rw e (record { no_block = refl; no_inline = refl; no_index = refl; no_blank = refl; no_list = refl; no_break = refl; no_link = refl; is_first = refl })
extras k (attr e) = rw e (record { no_block = refl; no_inline = refl; no_index = refl; no_blank = refl; no_list = refl; no_break = refl; no_link = refl; is_first = refl })

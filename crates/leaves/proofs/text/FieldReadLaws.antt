-- A field is read as the number that it is written from: reading what was written gives the number back, and what is read as a number is just what that number is written as. So a malformed field is one that no number up to the largest is written as.
use mathlib.Core.Path.{◌≡◌, refl, sym, ap, ◌∙◌}
use mathlib.Core.Bool.{Bool, true, false, ◌&&◌, and-false}
use mathlib.Core.List.{List, [], ◌∷◌, ◌++◌, append_assoc, append-nil}
use Prim.Native.Nat.{ℕ, zero, suc, ◌+◌, ◌-◌, ◌*◌, ◌/◌, ◌%◌, ◌^◌, ◌<◌, ◌≤◌}
use native.Mathlib.Nat.{div-add-mod', mod-lt}
use native.Mathlib.Omega.{arith}
use lib.Dec.{eqb, ltb, leb}
use lib.ListN.{length}
use borrow.Author.Tests.{eq-eqb, ne_eqb, eqb-true, eqb-false, le-leb, leb-true, ltb-false}
use Rattle.leaves.specs.Text.Bytes.{space, is_digit}
use Rattle.leaves.proofs.text.TestLaws.{and_left, and_right}
use Rattle.leaves.specs.Text.Field.{places, most_number, digit_zero, digit, last_place, front, field, past_spaces, read_digits, read_number, read_field}
use Rattle.leaves.proofs.text.FieldLaws.{field-long}
use Rattle.std.proofs.Common.{None, Some}

-- ---- a number by its last digit
module _ (n : ℕ) where
  pub by_ten : n / 10 * 10 + n % 10 ≡ n
  by_ten = div-add-mod' n 10

  pub last-small : n % 10 < 10
  last-small = mod-lt n (omega arith)

module _ (m d : ℕ) (h : d < 10) where
  more-div : (m * 10 + d) / 10 ≡ m
  more-div = omega (arith, by_ten (m * 10 + d), last-small (m * 10 + d))

  more-mod : (m * 10 + d) % 10 ≡ d
  more-mod = omega (arith, by_ten (m * 10 + d), last-small (m * 10 + d))

nonzero : (n : ℕ) → (n ≡ 0 → ⊥) → 0 < n
nonzero zero h = absurd (h refl)
nonzero (suc n) h = omega arith

empty : (s : List ℕ) → length s ≡ 0 → s ≡ []
empty [] h = refl
empty (b ∷ s) h = absurd (omega arith)

-- ---- spaces
front-spaces : (k : ℕ) → front (suc k) 0 ≡ space ∷ front k 0
unfolding front
front-spaces zero = refl
front-spaces (suc k) = ap (λ (s : List ℕ). s ++ space ∷ []) (front-spaces k)

past-front : (k b : ℕ) (s : List ℕ) → (b ≡ space → ⊥) → past_spaces (front k 0 ++ b ∷ s) ≡ b ∷ s
unfolding past_spaces front
past-front zero b s h = rw (ne_eqb _ _ h)
past-front (suc k) b s h = rw (front-spaces k) (past-front k b s h)

past-short : (s : List ℕ) → length (past_spaces s) ≤ length s
unfolding past_spaces
past-short [] = omega arith
past-short (b ∷ s) = go (past-short s) (eqb b space) refl
  where
    go : length (past_spaces s) ≤ length s → (t : Bool) → eqb b space ≡ t → length (past_spaces (b ∷ s)) ≤ length (b ∷ s)
    go h true e = rw e (omega arith)
    go h false e = rw e (omega arith)

-- a text is its spaces in front, and what stands behind them
past_is : (s : List ℕ) → s ≡ front (length s - length (past_spaces s)) 0 ++ past_spaces s
unfolding past_spaces front
past_is [] = refl
past_is (b ∷ s) = go (past_is s) (eqb b space) refl
  where
    go : s ≡ front (length s - length (past_spaces s)) 0 ++ past_spaces s → (t : Bool) → eqb b space ≡ t → b ∷ s ≡ front (length (b ∷ s) - length (past_spaces (b ∷ s))) 0 ++ past_spaces (b ∷ s)
    go h true e =
        let n : suc (length s) - length (past_spaces s) ≡ suc (length s - length (past_spaces s)) = omega (arith, past-short s) in
        rw (e, n, front-spaces, eqb-true b space e) (ap (λ (t : List ℕ). space ∷ t) h)
    go h false e = let n : suc (length s) - suc (length s) ≡ 0 = omega arith in rw (e, n)

-- ---- digits

digit-is : (d : ℕ) → d < 10 → is_digit (digit d) ≡ true
digit-is d h = rw (le-leb 48 (48 + d) (omega arith), le-leb (48 + d) 57 (omega arith))

read_step : (n d : ℕ) (s : List ℕ) → d < 10 → n * 10 + d ≤ most_number → read_digits n (digit d ∷ s) ≡ read_digits (n * 10 + d) s
unfolding read_digits
read_step n d s h l = let e : digit d - digit_zero ≡ d = omega arith in rw (digit-is d h, e, le-leb _ _ l)

-- the last place of a number that is not 0
last-is : (n : ℕ) → 0 < n → last_place n ≡ digit (n % 10)
last-is n h = rw (ne_eqb n 0 (λ e. omega arith))

-- ---- what is written is read

front_read : (k n : ℕ) (s : List ℕ) → 0 < n → n < 10 ^ k → n ≤ most_number → read_number (past_spaces (front k n ++ s)) ≡ read_digits n s
unfolding front read_number
front_read zero n s h l m = absurd (omega arith)
front_read (suc k) n s h l m = rw (append_assoc (front k (n / 10)) (last_place n ∷ []) s, last-is n h) (go (front_read k (n / 10) (digit (n % 10) ∷ s)) (eqb (n / 10) 0) refl)
  where
    go : (0 < n / 10 → n / 10 < 10 ^ k → n / 10 ≤ most_number → read_number (past_spaces (front k (n / 10) ++ digit (n % 10) ∷ s)) ≡ read_digits (n / 10) (digit (n % 10) ∷ s)) → (t : Bool) → eqb (n / 10) 0 ≡ t → read_number (past_spaces (front k (n / 10) ++ digit (n % 10) ∷ s)) ≡ read_digits n s
    go f true e =
        let z : n / 10 ≡ 0 = eqb-true (n / 10) 0 e in
        let d : n % 10 ≡ n = omega (arith, by_ten n) in
        let small : n < 10 = omega (arith, last-small n) in
        let more : 0 * 10 + n ≡ n = omega arith in
        let first : eqb (digit n) digit_zero ≡ false = ne_eqb (digit n) digit_zero (λ q. omega arith) in
        let some : eqb (suc (length s)) 0 ≡ false = ne_eqb (suc (length s)) 0 (λ q. omega arith) in
        rw (z, d, past-front k (digit n) s (λ q. omega arith), some, first) (read_step 0 n s small (omega arith) ∙ rw more)
    go f false e =
        let z : 0 < n / 10 = nonzero (n / 10) (eqb-false (n / 10) 0 e) in
        let small : n / 10 < 10 ^ k = omega (arith, by_ten n) in
        let most : n / 10 ≤ most_number = omega (arith, by_ten n) in
        f z small most ∙ read_step (n / 10) (n % 10) s (last-small n) (omega (arith, by_ten n)) ∙ rw (by_ten n)

pub written_read : (n : ℕ) → n ≤ most_number → read_field (field n) ≡ Some n
unfolding read_field field read_number read_digits
written_read n h = rw (eq-eqb _ _ (field-long n)) (go (eqb (n / 10) 0) refl)
  where
    go : (t : Bool) → eqb (n / 10) 0 ≡ t → read_number (past_spaces (field n)) ≡ Some n
    go true e =
        let z : n / 10 ≡ 0 = eqb-true (n / 10) 0 e in
        let d : n % 10 ≡ n = omega (arith, by_ten n) in
        let small : n < 10 = omega (arith, last-small n) in
        let more : 0 * 10 + n ≡ n = omega arith in
        rw (z, d, past-front 10 (digit n) [] (λ q. omega arith), and-false) (read_step 0 n [] small (omega arith) ∙ rw more)
    go false e =
        let z : 0 < n / 10 = nonzero (n / 10) (eqb-false (n / 10) 0 e) in
        front_read 10 (n / 10) (digit (n % 10) ∷ []) z (omega (arith, by_ten n)) (omega (arith, by_ten n)) ∙ read_step (n / 10) (n % 10) [] (last-small n) (omega (arith, by_ten n)) ∙ rw (by_ten n)

-- ---- what is read is written

-- a digit is taken where the number stays small enough
module _ (b m : ℕ) (q : is_digit b && leb m most_number ≡ true) where
  taken-low : 48 ≤ b
  taken-low = leb-true _ _ (and_left (leb 48 b) (leb b 57) (and_left (is_digit b) (leb m most_number) q))

  taken-high : b ≤ 57
  taken-high = leb-true _ _ (and_right (leb 48 b) (leb b 57) (and_left (is_digit b) (leb m most_number) q))

  taken-small : m ≤ most_number
  taken-small = leb-true _ _ (and_right (is_digit b) (leb m most_number) q)

bad-number : (A : Type 0) {n : ℕ} → None ≡ Some n → A
bad-number A e = absurd (let z : ◌≡◌ {A = ℕ} 0 1 = cc in omega arith)

-- the number of digits behind those of m is not less than m, and not over the largest
digits-most : (m n : ℕ) (s : List ℕ) → m ≤ most_number → read_digits m s ≡ Some n → (m ≤ n) × (n ≤ most_number)
unfolding read_digits
digits-most m n [] h e = let q : m ≡ n = cc in (omega arith, omega arith)
digits-most m n (b ∷ s) h e = go (digits-most (m * 10 + (b - digit_zero)) n s) (is_digit b && leb (m * 10 + (b - digit_zero)) most_number) refl
  where
    go : (m * 10 + (b - digit_zero) ≤ most_number → read_digits (m * 10 + (b - digit_zero)) s ≡ Some n → (m * 10 + (b - digit_zero) ≤ n) × (n ≤ most_number)) → (t : Bool) → is_digit b && leb (m * 10 + (b - digit_zero)) most_number ≡ t → (m ≤ n) × (n ≤ most_number)
    go f true q = let l = f (taken-small b (m * 10 + (b - digit_zero)) q) (rw q at e) in (omega arith, l.1)
    go f false q = bad-number _ (rw q at e)

-- digits that are read stand as they would be written, behind those of m
digits-written : (k m n : ℕ) (s : List ℕ) → 0 < m → read_digits m s ≡ Some n → front (k + length s) n ≡ front k m ++ s
unfolding read_digits front
digits-written k m n [] h e =
    let q : m ≡ n = cc in
    let z : k + 0 ≡ k = omega arith in
    rw (z, ← q) (sym (append-nil (front k m)))
digits-written k m n (b ∷ s) h e = go (digits-written (suc k) (m * 10 + (b - digit_zero)) n s) (is_digit b && leb (m * 10 + (b - digit_zero)) most_number) refl
  where
    go : (0 < m * 10 + (b - digit_zero) → read_digits (m * 10 + (b - digit_zero)) s ≡ Some n → front (suc k + length s) n ≡ front (suc k) (m * 10 + (b - digit_zero)) ++ s) → (t : Bool) → is_digit b && leb (m * 10 + (b - digit_zero)) most_number ≡ t → front (k + length (b ∷ s)) n ≡ front k m ++ b ∷ s
    go f true q =
        let low = taken-low b (m * 10 + (b - digit_zero)) q in
        let high = taken-high b (m * 10 + (b - digit_zero)) q in
        let z : k + suc (length s) ≡ suc k + length s = omega arith in
        let back : digit (b - digit_zero) ≡ b = omega arith in
        rw z (f (omega arith) (rw q at e) ∙ rw (last-is (m * 10 + (b - digit_zero)) (omega arith), more-div m (b - digit_zero) (omega arith), more-mod m (b - digit_zero) (omega arith), back) (append_assoc (front k m) (b ∷ []) s))
    go f false q = bad-number _ (rw q at e)

-- a number that is not 0 fills its 11 places from the front
field-front : (n : ℕ) → 0 < n → front 11 n ≡ field n
unfolding front field
field-front n h = rw (last-is n h)

-- the digits b and s behind spaces, 11 places in all: `0` alone, or a first digit that is not 0
module _ (k n b : ℕ) (s : List ℕ) (long : k + suc (length s) ≡ places) (low : 48 ≤ b) (high : b ≤ 57) (e : read_digits (0 * 10 + (b - digit_zero)) s ≡ Some n) where
  zero-written : b ≡ digit_zero → length s ≡ 0 → front k 0 ++ b ∷ s ≡ field n
  unfolding field read_digits
  zero-written z h =
      let none : s ≡ [] = empty s h in
      let ten : k ≡ 10 = omega arith in
      let nothing : 0 * 10 + (b - digit_zero) ≡ 0 = omega arith in
      let q : Some 0 ≡ Some n = rw (none, nothing) at e in
      let m : 0 ≡ n = cc in
      rw (none, ten, z, ← m)

  some_written : (b ≡ digit_zero → ⊥) → front k 0 ++ b ∷ s ≡ field n
  unfolding front
  some_written z =
      let first : 0 * 10 + (b - digit_zero) ≡ b - digit_zero = omega arith in
      let d : read_digits (b - digit_zero) s ≡ Some n = rw first at e in
      let some : 0 < b - digit_zero = nonzero (b - digit_zero) (λ q. z (omega arith)) in
      let grows = digits-most (b - digit_zero) n s (omega arith) d in
      let eleven : suc k + length s ≡ 11 = omega arith in
      let back : digit (b - digit_zero) ≡ b = omega arith in
      let div : (b - digit_zero) / 10 ≡ 0 = omega (arith, by_ten (b - digit_zero), last-small (b - digit_zero)) in
      let own : (b - digit_zero) % 10 ≡ b - digit_zero = omega (arith, by_ten (b - digit_zero), last-small (b - digit_zero)) in
      let w : front 11 n ≡ front (suc k) (b - digit_zero) ++ s = rw eleven at (digits-written (suc k) (b - digit_zero) n s some d) in
      sym (append_assoc (front k 0) (b ∷ []) s) ∙ sym (w ∙ rw (last-is (b - digit_zero) some, div, own, back)) ∙ field-front n (omega arith)

number-written : (k n : ℕ) (s : List ℕ) → k + length s ≡ places → read_number s ≡ Some n → (front k 0 ++ s ≡ field n) × (n ≤ most_number)
unfolding read_number read_digits
number-written k n [] h e = bad-number _ e
number-written k n (b ∷ s) h e = go (eqb b digit_zero) refl (ltb 1 (suc (length s))) refl (is_digit b && leb (0 * 10 + (b - digit_zero)) most_number) refl
  where
    some : eqb (suc (length s)) 0 ≡ false
    some = ne_eqb (suc (length s)) 0 (λ q. omega arith)

    go : (z : Bool) → eqb b digit_zero ≡ z → (m : Bool) → ltb 1 (suc (length s)) ≡ m → (t : Bool) → is_digit b && leb (0 * 10 + (b - digit_zero)) most_number ≡ t → (front k 0 ++ b ∷ s ≡ field n) × (n ≤ most_number)
    go true p true q t r = bad-number _ (rw (some, p, q) at e)
    go true p false q false r = bad-number _ (rw (some, p, q, r) at e)
    go false p m q false r = bad-number _ (rw (some, p, r) at e)
    go true p false q true r =
        let d : read_digits (0 * 10 + (b - digit_zero)) s ≡ Some n = rw (some, p, q, r) at e in
        (zero-written k n b s h (taken-low b (0 * 10 + (b - digit_zero)) r) (taken-high b (0 * 10 + (b - digit_zero)) r) d (eqb-true b digit_zero p) (omega (arith, ltb-false 1 (suc (length s)) q)), (digits-most (0 * 10 + (b - digit_zero)) n s (taken-small b (0 * 10 + (b - digit_zero)) r) d).1)
    go false p m q true r =
        let d : read_digits (0 * 10 + (b - digit_zero)) s ≡ Some n = rw (some, p, r) at e in
        (some_written k n b s h (taken-low b (0 * 10 + (b - digit_zero)) r) (taken-high b (0 * 10 + (b - digit_zero)) r) d (eqb-false b digit_zero p), (digits-most (0 * 10 + (b - digit_zero)) n s (taken-small b (0 * 10 + (b - digit_zero)) r) d).1)

pub read-written : (s : List ℕ) (n : ℕ) → read_field s ≡ Some n → (s ≡ field n) × (n ≤ most_number)
unfolding read_field
read-written s n e = go (eqb (length s) places) refl
  where
    go : (t : Bool) → eqb (length s) places ≡ t → (s ≡ field n) × (n ≤ most_number)
    go true q =
        let long : length s - length (past_spaces s) + length (past_spaces s) ≡ places = omega (arith, eqb-true (length s) places q, past-short s) in
        let w = number-written (length s - length (past_spaces s)) n (past_spaces s) long (rw q at e) in
        (past_is s ∙ w.0, w.1)
    go false q = bad-number _ (rw q at e)

-- a malformed field is one that no number is written as
pub malformed-unwritten : (s : List ℕ) → read_field s ≡ None → (n : ℕ) → n ≤ most_number → s ≡ field n → ⊥
malformed-unwritten s e n h q = bad-number _ (sym e ∙ ap read_field q ∙ written_read n h)

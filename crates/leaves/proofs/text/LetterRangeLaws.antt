-- Ranges that ascend and do not overlap: what a binary search among them says of membership.
use mathlib.Core.Path.{◌≡◌, refl, sym, ap, ◌∙◌}
use mathlib.Core.Bool.{Bool, true, false, ◌&&◌, ◌||◌, or-true, or-false, and-false}
use mathlib.Core.List.{List, [], ◌∷◌}
use Prim.Native.Nat.{ℕ, zero, suc, ◌<◌, ◌≤◌}
use native.Mathlib.Omega.{arith}
use borrow.Author.Tests.{ltb-true, ltb-false, leb-true, lt-ltb, le-ltb, le-leb, lt-leb, ne_eqb}
use lib.Dec.{ltb, leb}
use borrow.Author.Rules.{rules}
use Rattle.std.proofs.lemmas.Bool.{agree_below_at}
use lib.ListN.{length, get_or}
use Rattle.std.specs.Prelude.{if◌then◌else◌}
use Rattle.std.specs.Ordering.{ordering_index}
use Rattle.std.specs.List.{AllWithin}
use Rattle.std.specs.List.Sorted.{IsNonDecreasingBy, IsBinarySearchResult, IsSearchInRange}
use Rattle.std.specs.Result.{is_ok}
use Rattle.std.proofs.Common.{Result, Ok, Err}
use Rattle.std.specs.declared.cmp.Ordering.{Ordering}
use Rattle.std.specs.declared.cmp.Ordering.TheVariants.{Less, Equal, Greater}
use Rattle.leaves.proofs.text.TestLaws.{and_left, and_right}
use Rattle.leaves.specs.Text.Bytes.{between, is_letter, slash, underscore, hyphen}
use Rattle.leaves.specs.Text.UnicodeLetters.{letter_ranges, number_ranges, are_above, are_ranges, in_ranges, is_unicode_letter}
use Rattle.leaves.specs.Text.UnicodeLetters.{is_tag_name_char}
use Rattle.leaves.specs.Text.TagNameScans.{is_ascii_tag_name_char}

-- on which side of c a range is
abbrev pub side : ℕ → ℕ × ℕ → Ordering
side c r = if ltb c r.0 then Greater else if ltb r.1 c then Less else Equal

module _ (c : ℕ) where
  -- what `are_above` says of its first range, and of those behind it
  starts : (b : ℕ) (r : ℕ × ℕ) (rs : List (ℕ × ℕ)) → are_above b (r ∷ rs) ≡ true → (b < r.0) × (r.0 ≤ r.1) × (are_above r.1 rs ≡ true)
  unfolding are_above
  starts b r rs t =
      let u : (ltb b r.0 && leb r.0 r.1) ≡ true = and_left (ltb b r.0 && leb r.0 r.1) (are_above r.1 rs) t in
      (ltb-true b r.0 (and_left (ltb b r.0) (leb r.0 r.1) u), leb-true r.0 r.1 (and_right (ltb b r.0) (leb r.0 r.1) u), and_right (ltb b r.0 && leb r.0 r.1) (are_above r.1 rs) t)

  -- every range above b is above what is at most b
  all-above : (b : ℕ) (rs : List (ℕ × ℕ)) → are_above b rs ≡ true → c ≤ b → (k : ℕ) (d : ℕ × ℕ) → k < length rs → side c (get_or rs k d) ≡ Greater
  all-above b [] t h k d l = absurd (omega arith)
  all-above b (r ∷ rs) t h zero d l = let p = starts b r rs t in rw (lt-ltb c r.0 (omega (arith, p.0))) refl
  all-above b (r ∷ rs) t h (suc k) d l = let p = starts b r rs t in all-above r.1 rs p.2 (omega (arith, p.0, p.1)) k d (omega arith)

  few : (o : Ordering) → ordering_index o ≤ 2
  few Less = omega arith
  few Equal = omega arith
  few Greater = omega arith

  rises : (b : ℕ) (rs : List (ℕ × ℕ)) → are_above b rs ≡ true → IsNonDecreasingBy (λ r. ordering_index (side c r)) rs
  rises b [] t i j d h l = absurd (omega arith)
  rises b (r ∷ rs) t zero zero d h l = omega arith
  rises b (r ∷ rs) t (suc i) zero d h l = absurd (omega arith)
  rises b (r ∷ rs) t (suc i) (suc j) d h l = rises r.1 rs (starts b r rs t).2 i j d (omega arith) (omega arith)
  rises b (r ∷ rs) t zero (suc j) d h l = go (ltb r.1 c) refl
    where
      go : (u : Bool) → ltb r.1 c ≡ u → ordering_index (side c r) ≤ ordering_index (side c (get_or rs j d))
      go true e = rw (le-ltb c r.0 (omega (arith, (starts b r rs t).1, ltb-true r.1 c e)), e) (omega arith)
      go false e = rw (all-above r.1 rs (starts b r rs t).2 (ltb-false r.1 c e) j d (omega arith)) (few (side c r))

  -- the range is one that c is in where it is on no side
  inside : (r : ℕ × ℕ) → ordering_index (side c r) ≡ 1 → between r.0 r.1 c ≡ true
  inside r = go (ltb c r.0) (ltb r.1 c) refl refl
    where
      go : (t u : Bool) → ltb c r.0 ≡ t → ltb r.1 c ≡ u → ordering_index (if t then Greater else if u then Less else Equal) ≡ 1 → between r.0 r.1 c ≡ true
      go true u e f i = absurd (omega arith)
      go false true e f i = absurd (omega arith)
      go false false e f i = rw (le-leb r.0 c (ltb-false c r.0 e), le-leb c r.1 (ltb-false r.1 c f)) refl

  outside : (r : ℕ × ℕ) → (ordering_index (side c r) ≡ 1 → ⊥) → between r.0 r.1 c ≡ false
  outside r = go (ltb c r.0) (ltb r.1 c) refl refl
    where
      go : (t u : Bool) → ltb c r.0 ≡ t → ltb r.1 c ≡ u → (ordering_index (if t then Greater else if u then Less else Equal) ≡ 1 → ⊥) → between r.0 r.1 c ≡ false
      go true u e f h = rw (lt-leb r.0 c (ltb-true c r.0 e)) refl
      go false true e f h = rw (lt-leb c r.1 (ltb-true r.1 c f)) (and-false (leb r.0 c))
      go false false e f h = absurd (h refl)

  hit : (rs : List (ℕ × ℕ)) (k : ℕ) (d : ℕ × ℕ) → k < length rs → ordering_index (side c (get_or rs k d)) ≡ 1 → in_ranges rs c ≡ true
  unfolding in_ranges
  hit [] k d l e = absurd (omega arith)
  hit (r ∷ rs) zero d l e = rw (inside r e) refl
  hit (r ∷ rs) (suc k) d l e = rw (hit rs k d (omega arith) e) (or-true (between r.0 r.1 c))

  miss : (rs : List (ℕ × ℕ)) → ((k : ℕ) (d : ℕ × ℕ) → k < length rs → ordering_index (side c (get_or rs k d)) ≡ 1 → ⊥) → in_ranges rs c ≡ false
  unfolding in_ranges
  miss [] h = refl
  miss (r ∷ rs) h = rw (outside r (h zero r (omega arith)), miss rs (λ k d l. h (suc k) d (omega arith))) refl

  pub found : (rs : List (ℕ × ℕ)) → are_ranges rs ≡ true → (o : Result ℕ ℕ) → IsSearchInRange o (length rs) → IsBinarySearchResult (side c) rs o → is_ok o ≡ in_ranges rs c
  unfolding are_ranges
  found rs t (Ok i) l f = sym (hit rs i (0, 0) l (ap ordering_index (f (0, 0))))
  found rs t (Err i) l f = sym (miss rs none_equal)
    where
      parts : AllWithin (λ r. side c r ≡ Less) rs 0 i × AllWithin (λ r. side c r ≡ Greater) rs i (length rs)
      parts = f (rises 0 rs t)

      none_equal : (k : ℕ) (d : ℕ × ℕ) → k < length rs → ordering_index (side c (get_or rs k d)) ≡ 1 → ⊥
      none_equal k d h e = go (ltb k i) refl
        where
          go : (u : Bool) → ltb k i ≡ u → ⊥
          go true p = let z : ordering_index (side c (get_or rs k d)) ≡ 0 = ap ordering_index (parts.0 k d (omega arith) (ltb-true k i p)) in omega (arith, e, z)
          go false p = let z : ordering_index (side c (get_or rs k d)) ≡ 2 = ap ordering_index (parts.1 k d (ltb-false k i p) h) in omega (arith, e, z)

-- one computed test over each whole table
letters-are : are_ranges letter_ranges ≡ true
unfolding letter_ranges are_ranges are_above
letters-are = refl

numbers-are : are_ranges number_ranges ≡ true
unfolding number_ranges are_ranges are_above
numbers-are = refl

pub letters_ascend : {rs : List (ℕ × ℕ)} → rs ≡ letter_ranges → are_ranges rs ≡ true
letters_ascend e = rw e letters-are

pub numbers_ascend : {rs : List (ℕ × ℕ)} → rs ≡ number_ranges → are_ranges rs ≡ true
numbers_ascend e = rw e numbers-are

-- the letters of ASCII, and the characters of ASCII that can continue a tag name
pub ascii_letter : {c : ℕ} {t : Bool} → c < 0x80 → t ≡ is_letter c → t ≡ is_unicode_letter c
unfolding is_unicode_letter in_ranges letter_ranges
ascii_letter {c} h e = e ∙ agree_below_at is_letter is_unicode_letter 0x80 c refl h

pub ascii_char : {c : ℕ} {t : Bool} → c < 0x80 → t ≡ is_ascii_tag_name_char c → t ≡ is_tag_name_char c
unfolding is_tag_name_char is_unicode_letter in_ranges letter_ranges number_ranges
ascii_char {c} h e = e ∙ agree_below_at is_ascii_tag_name_char is_tag_name_char 0x80 c refl h

pub letter_found : {rs : List (ℕ × ℕ)} (c : ℕ) {t : Bool} → rs ≡ letter_ranges → t ≡ in_ranges rs c → t ≡ is_unicode_letter c
unfolding is_unicode_letter
letter_found c e f = f ∙ ap (λ rs. in_ranges rs c) e

-- behind ASCII no sign is one that a tag name may have
no-sign : (c : ℕ) → 0x80 ≤ c → is_tag_name_char c ≡ (in_ranges letter_ranges c || in_ranges number_ranges c)
unfolding is_tag_name_char is_unicode_letter
no-sign c h = rw (ne_eqb c slash (λ e. absurd (omega arith)), ne_eqb c underscore (λ e. absurd (omega arith)), ne_eqb c hyphen (λ e. absurd (omega arith)), or-false (in_ranges letter_ranges c || in_ranges number_ranges c), or-false (in_ranges letter_ranges c || in_ranges number_ranges c), or-false (in_ranges letter_ranges c || in_ranges number_ranges c)) refl

pub char_letter : {rs : List (ℕ × ℕ)} (c : ℕ) {t : Bool} → 0x80 ≤ c → rs ≡ letter_ranges → t ≡ in_ranges rs c → t ≡ true → true ≡ is_tag_name_char c
char_letter c h e f y = let l : in_ranges letter_ranges c ≡ true = rw e at (sym f ∙ y) in sym (no-sign c h ∙ rw l refl)

pub char_number : {rs ns : List (ℕ × ℕ)} (c : ℕ) {t u : Bool} → 0x80 ≤ c → rs ≡ letter_ranges → t ≡ in_ranges rs c → t ≡ false → ns ≡ number_ranges → u ≡ in_ranges ns c → u ≡ is_tag_name_char c
char_number c h e f n g k = let l : in_ranges letter_ranges c ≡ false = rw e at (sym f ∙ n) in let m : in_ranges number_ranges c ≡ _ = rw g at (sym k) in sym (no-sign c h ∙ rw l m)

pub ruleset letter_laws = (letters_ascend, ascii_letter, letter_found, rules)

pub ruleset number_laws = (letters_ascend, numbers_ascend, ascii_char, char_letter, char_number, rules)

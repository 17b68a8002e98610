-- A film that is longer than the largest well-formed one is refused, and by one byte more than those the refusal is known: who reads no more than that reads enough.
use mathlib.Core.Path.{◌≡◌, refl}
use mathlib.Core.Bool.{Bool, true, false}
use mathlib.Core.List.{List}
use Prim.Native.Nat.{ℕ, zero, suc, ◌+◌, ◌-◌, ◌*◌, ◌<◌, ◌≤◌}
use native.Mathlib.Omega.{arith}
use lib.Dec.{eqb, ltb}
use lib.ListN.{length, take, drop, length-take, length-drop}
use borrow.Author.Tests.{ne_eqb, ltb-false}
use Rattle.leaves.specs.Sheet.Records.{record_words}
use Rattle.leaves.proofs.text.TestLaws.{or_left, or_right}
use Rattle.leaves.specs.Text.Columns.{line_bytes, is_line, numbers}
use Rattle.leaves.proofs.text.ColumnLaws.{drop-take, numbers-take, line-take}
use Rattle.setter.specs.Listing.Film.{count_fields, record_count, byte_count, are_records, behind_counts, text_behind, most_film_records, most_film_bytes, most_input, is_big, film_of}

records-take : (n m : ℕ) (s : List ℕ) → n * line_bytes record_words ≤ m → are_records n (take m s) ≡ are_records n s
unfolding are_records
records-take zero m s h = refl
records-take (suc n) m s h = rw (line-take record_words m s (omega arith), drop-take (line_bytes record_words) m s (omega arith), records-take n (m - line_bytes record_words) (drop (line_bytes record_words) s) (omega arith))

pub record Cut (s : List ℕ) : Type 0 where
  pub same : film_of (take (suc most_input) s) ≡ film_of s
  pub refused : eqb (film_of s).number 0 ≡ false

module _ (s : List ℕ) (long : most_input < length s) where
  line-is : is_line count_fields (take (suc most_input) s) ≡ is_line count_fields s
  line-is = line-take count_fields (suc most_input) s (omega arith)

  counts-are : numbers count_fields (take (suc most_input) s) ≡ numbers count_fields s
  counts-are = numbers-take count_fields (suc most_input) s (omega arith)

  few-of : is_big s ≡ false → record_count s ≤ most_film_records
  few-of q = ltb-false _ _ (or_left (ltb most_film_records (record_count s)) (ltb most_film_bytes (byte_count s)) q)

  short-of : is_big s ≡ false → byte_count s ≤ most_film_bytes
  short-of q = ltb-false _ _ (or_right (ltb most_film_records (record_count s)) (ltb most_film_bytes (byte_count s)) q)

  module _ (few : record_count s ≤ most_film_records) (short : byte_count s ≤ most_film_bytes) where
    lines_are : are_records (record_count s) (behind_counts (take (suc most_input) s)) ≡ are_records (record_count s) (behind_counts s)
    lines_are = rw (drop-take (line_bytes count_fields) (suc most_input) s (omega arith)) (records-take (record_count s) (suc most_input - line_bytes count_fields) (behind_counts s) (omega arith))

    -- the text is too long, cut or not
    text-long : eqb (length (text_behind (record_count s) s)) (byte_count s) ≡ false
    unfolding text_behind
    text-long = ne_eqb (length (text_behind (record_count s) s)) (byte_count s) (λ e. omega (arith, length-drop (line_bytes count_fields + record_count s * line_bytes record_words) s))

    text-cut : eqb (length (text_behind (record_count s) (take (suc most_input) s))) (byte_count s) ≡ false
    unfolding text_behind
    text-cut = ne_eqb (length (text_behind (record_count s) (take (suc most_input) s))) (byte_count s) (λ e. omega (arith, length-drop (line_bytes count_fields + record_count s * line_bytes record_words) (take (suc most_input) s), length-take (suc most_input) s))

  pub cut : Cut s
  unfolding film_of
  cut = go (is_line count_fields s) refl (is_big s) refl (are_records (record_count s) (behind_counts s)) refl
    where
      go : (a : Bool) → is_line count_fields s ≡ a → (b : Bool) → is_big s ≡ b → (d : Bool) → are_records (record_count s) (behind_counts s) ≡ d → Cut s
      go false p b q d r = record { same = rw (line-is, p); refused = rw p }
      go true p true q d r = record { same = rw (line-is, counts-are, p, q); refused = rw (p, q) }
      go true p false q false r =
          record { same = rw (line-is, counts-are, lines_are (few-of q) (short-of q), p, q, r); refused = rw (p, q, r) }
      go true p false q true r =
          let few = few-of q in
          let short = short-of q in
          record { same = rw (line-is, counts-are, lines_are few short, text-cut few short, text-long few short, p, q, r); refused = rw (p, q, r, text-long few short) }

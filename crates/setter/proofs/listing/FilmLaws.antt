-- A film that is ready, and the words of its sheet.
use mathlib.Core.Path.{◌≡◌, refl, ◌∙◌}
use mathlib.Core.Bool.{Bool, true, false}
use mathlib.Core.List.{List, ◌++◌}
use Prim.Native.Nat.{ℕ, zero, suc, ◌*◌, ◌<◌, ◌≤◌}
use native.Mathlib.Omega.{arith}
use lib.Dec.{eqb, ltb}
use lib.ListN.{length, drop, length-append}
use borrow.Author.Tests.{ltb-false}
use Rattle.leaves.specs.Sheet.Records.{record_words}
use Rattle.leaves.specs.Text.Columns.{line_bytes, is_line, numbers}
use Rattle.leaves.proofs.text.ColumnLaws.{numbers-long}
use Rattle.setter.specs.Listing.Film.{count_fields, record_count, byte_count, are_records, sheet_of, behind_counts, film_sheet, most_film_records, most_film_bytes, film_text, film_of, filled_sheet}
use Rattle.leaves.specs.Refusal.Verdict.{answer}

-- ---- a film that is ready has as many records as its first line says, and not too many
pub record Good (s : List ℕ) : Type 0 where
  pub answer : film_of s ≡ answer 0 (record_count s)
  pub filled : (old : List ℕ) → filled_sheet s old ≡ film_sheet s ++ drop (record_count s * record_words) old
  pub few : record_count s ≤ most_film_records

pub good : (s : List ℕ) → (film_of s).number ≡ 0 → Good s
unfolding film_of filled_sheet
good s z = go (is_line count_fields s) refl (ltb most_film_records (record_count s)) refl (ltb most_film_bytes (byte_count s)) refl (are_records (record_count s) (behind_counts s)) refl (eqb (length (film_text s)) (byte_count s)) refl
  where
    no : {m : ℕ} → m ≡ 0 → 0 < m → Good s
    no e h = absurd (omega arith)

    go : (a : Bool) → is_line count_fields s ≡ a → (b : Bool) → ltb most_film_records (record_count s) ≡ b → (c : Bool) → ltb most_film_bytes (byte_count s) ≡ c → (d : Bool) → are_records (record_count s) (behind_counts s) ≡ d → (e : Bool) → eqb (length (film_text s)) (byte_count s) ≡ e → Good s
    go false p b q c r d t e u = no (rw p at z) (omega arith)
    go true p true q c r d t e u = no (rw (p, q) at z) (omega arith)
    go true p false q true r d t e u = no (rw (p, q, r) at z) (omega arith)
    go true p false q false r false t e u = no (rw (p, q, r, t) at z) (omega arith)
    go true p false q false r true t false u = no (rw (p, q, r, t, u) at z) (omega arith)
    go true p false q false r true t true u =
        record { answer = rw (p, q, r, t, u); filled = λ old. rw (p, q, r); few = ltb-false _ _ q }

pub sheet-long : (n : ℕ) (s : List ℕ) → length (sheet_of n s) ≡ n * record_words
unfolding sheet_of
sheet-long zero s = refl
sheet-long (suc n) s = length-append (numbers record_words s) (sheet_of n (drop (line_bytes record_words) s)) ∙ omega (arith, numbers-long record_words s, sheet-long n (drop (line_bytes record_words) s))

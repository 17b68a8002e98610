-- The functions of `records`, one law for each way through.
use mathlib.Core.Path.{◌≡◌, refl, sym, ap, ◌∙◌}
use mathlib.Core.Bool.{Bool, true, ◌&&◌, and_assoc, and-true}
use mathlib.Core.List.{List, ◌++◌, append_assoc, append-nil}
use Prim.Native.Nat.{ℕ, suc, ◌+◌, ◌-◌, ◌*◌, ◌<◌, ◌≤◌}
use native.Mathlib.Nat.{sub-zero}
use native.Mathlib.Omega.{arith}
use lib.ListN.{length, take, drop, length-append, length-take, length-drop, take-append-drop}
use lib.Seq.{take_at, drop_at, drop-drop}
use borrow.Author.Rules.{rules}
use borrow.Rule.Slice.PartMut.{put_mid}
use Rattle.leaves.specs.Sheet.Records.{record_words}
use Rattle.leaves.specs.Text.Columns.{line_bytes, is_line, numbers}
use Rattle.leaves.proofs.text.ColumnLaws.{numbers-long}
use Rattle.setter.specs.Listing.Records.{are_records, sheet_of}

-- ---- `read_records`: the lines of i records are read, and what is left decides the whole
pub record Rows (s : List ℕ) (n : ℕ) (old sheet : List ℕ) (good : Bool) (rest : List ℕ) (i : ℕ) : Type 0 where
  pub inside : i ≤ n
  pub long : length sheet ≡ length old
  pub fine : are_records n s ≡ good && are_records (n - i) rest
  pub is : sheet_of n s ≡ take (i * record_words) sheet ++ sheet_of (n - i) rest
  pub kept : drop (i * record_words) sheet ≡ drop (i * record_words) old

pub rows_start : (s : List ℕ) (n : ℕ) (old : List ℕ) → Rows s n old old true s 0
rows_start s n old =
    record { inside = omega arith; long = refl; fine = rw sub-zero; is = rw sub-zero; kept = refl }

module _ {s old sheet rest : List ℕ} {n i : ℕ} {good : Bool} (r : Rows s n old sheet good rest i) (h : i < n) (room : n * record_words ≤ length old) where
  -- the words of the next record
  pub rows-room : i * record_words + record_words ≤ length sheet
  rows-room = omega (arith, r.long)

  module _ {to : ℕ} (place : to ≡ i * record_words) where
    pub rows-twelve : length (take (to + record_words - to) (drop to sheet)) ≡ record_words
    rows-twelve =
        let k : to + record_words - to ≡ record_words = omega arith in
        rw k (simp (length-take, length-drop) (omega (arith, rows-room)))

    pub rows_next : {y behind : List ℕ} {g : Bool} → (g ≡ is_line (length (take (to + record_words - to) (drop to sheet))) rest) × (y ≡ numbers (length (take (to + record_words - to) (drop to sheet))) rest) → behind ≡ drop (line_bytes record_words) rest → Rows s n old (put_mid to (to + record_words - to) sheet y) (good && g) behind (i + 1)
    unfolding are_records sheet_of
    rows_next {y} {behind} {g} f e =
        let left : n - i ≡ suc (n - (i + 1)) = omega arith in
        let k : to + record_words - to ≡ record_words = omega arith in
        let up : (i + 1) * record_words ≡ to + record_words = omega arith in
        let fits : to + record_words ≤ length sheet = omega (arith, rows-room) in
        let g-is : g ≡ is_line record_words rest = rw rows-twelve at f.0 in
        let y-is : y ≡ numbers record_words rest = rw rows-twelve at f.1 in
        let y-long : length y ≡ record_words = rw y-is (numbers-long record_words rest) in
        let head : length (take to sheet ++ y) ≡ to + record_words = simp (length-append, length-take) (omega arith) in
        let put : put_mid to (to + record_words - to) sheet y ≡ (take to sheet ++ y) ++ drop (to + record_words) sheet = rw (k, drop-drop) (sym (append_assoc (take to sheet) y (drop (to + record_words) sheet))) in
        let same : drop to sheet ≡ drop to old = rw place r.kept in
        record {
          inside = omega arith;
          long = rw put (simp (length-append, length-take, length-drop) (omega (arith, r.long)));
          fine = r.fine ∙ rw (left, ← g-is, e, and_assoc);
          is = r.is ∙ rw (left, ← y-is, e, put, up, take_at (take to sheet ++ y) (drop (to + record_words) sheet) (to + record_words) head, ← place) (sym (append_assoc (take to sheet) y _));
          kept = rw (put, up, drop_at (take to sheet ++ y) (drop (to + record_words) sheet) (to + record_words) head) (sym (drop-drop record_words to sheet) ∙ ap (λ (l : List ℕ). drop record_words l) same ∙ drop-drop record_words to old);
        }

module _ {s old sheet rest : List ℕ} {n i : ℕ} {good : Bool} (r : Rows s n old sheet good rest i) (h : n ≤ i) where
  pub rows-good : good ≡ are_records n s
  unfolding are_records
  rows-good = let none : n - i ≡ 0 = omega arith in sym (r.fine ∙ rw (none, and-true))

  pub rows-sheet : sheet ≡ sheet_of n s ++ drop (n * record_words) old
  unfolding sheet_of
  rows-sheet =
      let none : n - i ≡ 0 = omega arith in
      let all : n ≡ i = omega (arith, r.inside) in
      rw (r.is, none, append-nil, all, ← r.kept) (sym (take-append-drop (i * record_words) sheet))

pub ruleset rows = (rows_start, rows-room, rows-twelve, rows_next, rows-good, rows-sheet, rules)

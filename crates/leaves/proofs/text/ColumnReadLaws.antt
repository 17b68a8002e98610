-- A line is read as the numbers that it is written from: numbers that were written are read back, whatever follows the line, and what is read as a line is just what its numbers are written as.
use mathlib.Core.Path.{◌≡◌, refl, ap}
use mathlib.Core.Bool.{Bool, true, false}
use mathlib.Core.List.{List, [], ◌∷◌, ◌++◌, append_assoc}
use Prim.Native.Nat.{ℕ, zero, suc, ◌+◌, ◌*◌, ◌<◌, ◌≤◌}
use native.Mathlib.Numerals.{add-one}
use native.Mathlib.Omega.{arith}
use lib.Dec.{eqb, leb}
use lib.ListN.{length, get_or, take, drop, get_or-eq_default}
use lib.Seq.{take_at, drop_at, get_or_at, take-add, take-suc}
use borrow.Author.Tests.{leb-true, leb-false, eqb-true}
use Rattle.leaves.specs.Text.Bytes.{lf}
use Rattle.std.specs.List.{list_all}
use Rattle.leaves.proofs.text.TestLaws.{and_left, and_right}
use Rattle.leaves.specs.Text.Field.{places, most_number, field, read_field}
use Rattle.leaves.specs.Text.Columns.{fields, line, line_bytes, are_fields, is_line, numbers}
use Rattle.leaves.proofs.text.FieldLaws.{field-long}
use Rattle.leaves.proofs.text.FieldReadLaws.{written_read, read-written}
use Rattle.leaves.proofs.text.ColumnLaws.{fields-long}
use Rattle.std.proofs.Common.{None, Option, Some}
use Rattle.std.specs.Option.{is_some, unwrap_or}

-- no number is over the largest
abbrev pub Small : List ℕ → Type 0
Small ns = list_all (λ (n : ℕ). leb n most_number) ns ≡ true

-- ---- what is written is read

fields_read : (ns rest : List ℕ) → Small ns → (are_fields (length ns) (fields ns ++ rest) ≡ true) × (numbers (length ns) (fields ns ++ rest) ≡ ns)
unfolding fields are_fields numbers
fields_read [] rest h = (refl, refl)
fields_read (n ∷ ns) rest h =
    let small : n ≤ most_number = leb-true _ _ (and_left (leb n most_number) (list_all (λ (m : ℕ). leb m most_number) ns) h) in
    let later = fields_read ns rest (and_right (leb n most_number) (list_all (λ (m : ℕ). leb m most_number) ns) h) in
    let t : take places (field n ++ (fields ns ++ rest)) ≡ field n = take_at (field n) (fields ns ++ rest) places (field-long n) in
    let d : drop places (field n ++ (fields ns ++ rest)) ≡ fields ns ++ rest = drop_at (field n) (fields ns ++ rest) places (field-long n) in
    (rw (append_assoc (field n) (fields ns) rest, t, d, written_read n small) later.0, rw (append_assoc (field n) (fields ns) rest, t, d, written_read n small, later.1))

pub line-back : (ns rest : List ℕ) → Small ns → (is_line (length ns) (line ns ++ rest) ≡ true) × (numbers (length ns) (line ns ++ rest) ≡ ns)
unfolding line is_line
line-back ns rest h =
    let r = fields_read ns (lf ∷ rest) h in
    let e : (fields ns ++ lf ∷ []) ++ rest ≡ fields ns ++ lf ∷ rest = append_assoc (fields ns) (lf ∷ []) rest in
    let last : get_or (fields ns ++ lf ∷ rest) (length ns * places) 0 ≡ lf = get_or_at (fields ns) lf rest 0 (length ns * places) (fields-long ns) in
    (rw (e, r.0, last), rw e r.1)

-- ---- what is read is written

number_is : (c : Option ℕ) → is_some c ≡ true → c ≡ Some (unwrap_or c 0)
number_is (Some n) h = refl
number_is None h = absurd (let z : ◌≡◌ {A = ℕ} 0 1 = cc in omega arith)

fields-are : (k : ℕ) (s : List ℕ) → are_fields k s ≡ true → take (k * places) s ≡ fields (numbers k s)
unfolding are_fields numbers fields
fields-are zero s h = refl
fields-are (suc k) s h =
    let c = read_field (take places s) in
    let n : c ≡ Some (unwrap_or c 0) = number_is c (and_left (is_some c) (are_fields k (drop places s)) h) in
    let f : take places s ≡ field (unwrap_or c 0) = (read-written (take places s) (unwrap_or c 0) n).0 in
    let later = fields-are k (drop places s) (and_right (is_some c) (are_fields k (drop places s)) h) in
    let e : suc k * places ≡ places + k * places = omega arith in
    rw (e, take-add places (k * places) s, later) (ap (λ (x : List ℕ). x ++ fields (numbers k (drop places s))) f)

pub line-is : (k : ℕ) (s : List ℕ) → is_line k s ≡ true → take (line_bytes k) s ≡ line (numbers k s)
unfolding is_line line
line-is k s h =
    let are = and_left (are_fields k s) (eqb (get_or s (k * places) 0) lf) h in
    let last : get_or s (k * places) 0 ≡ lf = eqb-true _ _ (and_right (are_fields k s) (eqb (get_or s (k * places) 0) lf) h) in
    let inside : k * places < length s = go (leb (length s) (k * places)) refl last in
    rw (add-one (k * places), take-suc s (k * places) 0 inside, last, fields-are k s are)
  where
    go : (b : Bool) → leb (length s) (k * places) ≡ b → get_or s (k * places) 0 ≡ lf → k * places < length s
    go false e l = leb-false _ _ e
    go true e l = absurd (omega (arith, get_or-eq_default s 0 {n = k * places} (leb-true _ _ e)))

-- The functions of `print`, one law for each way through; and the lines of a report that holds a list.
use mathlib.Core.Path.{◌≡◌, refl, sym, ap, ◌∙◌}
use mathlib.Core.Bool.{Bool, true, false}
use mathlib.Core.List.{List, [], ◌∷◌, ◌++◌, append_assoc}
use Prim.Native.Nat.{ℕ, zero, suc, min, ◌+◌, ◌-◌, ◌*◌, ◌<◌, ◌≤◌}
use native.Mathlib.Nat.{sub-zero, zero-add}
use native.Mathlib.Omega.{arith}
use lib.Dec.{leb}
use lib.ListN.{length, take, drop, length-append, length-take, length-drop, drop_of_length-le}
use lib.Seq.{take_all, take_at, drop_at}
use borrow.Author.Rules.{rules}
use borrow.Author.Tests.{leb-true, leb-false}
use Rattle.leaves.specs.Report.Entries.{Entry, words, flat}
use Rattle.leaves.specs.Text.Over.{over}
use Rattle.leaves.proofs.text.OverLaws.{over-fits, over-nil, over-two, length_over}
use Rattle.leaves.specs.Text.Field.{places}
use Rattle.leaves.specs.Text.Columns.{line, line_bytes, Writes}
use Rattle.leaves.proofs.text.ColumnLaws.{line-long}
use Rattle.setter.specs.Listing.Print.{refusal_line, entry_lines, report_words, output_bytes, Prints}
use Rattle.setter.specs.Listing.PrintInWords.{entry_words, lines_in, front_words}

-- ---- `write_entries`

-- no more is taken than there is
module _ (a : ℕ) (v : List ℕ) where
  take_min : take (min a (length v)) v ≡ take a v
  take_min = go (leb a (length v)) refl
    where
      go : (b : Bool) → leb a (length v) ≡ b → take (min a (length v)) v ≡ take a v
      go true e = let m : min a (length v) ≡ a = omega (arith, leb-true a (length v) e) in rw m
      go false e = take_all (min a (length v)) v (omega (arith, leb-false a (length v) e)) ∙ sym (take_all a v (omega (arith, leb-false a (length v) e)))

  drop_min : drop (min a (length v)) v ≡ drop a v
  drop_min = go (leb a (length v)) refl
    where
      go : (b : Bool) → leb a (length v) ≡ b → drop (min a (length v)) v ≡ drop a v
      go true e = let m : min a (length v) ≡ a = omega (arith, leb-true a (length v) e) in rw m
      go false e = drop_of_length-le v {i = min a (length v)} (omega (arith, leb-false a (length v) e)) ∙ sym (drop_of_length-le v {i = a} (omega (arith, leb-false a (length v) e)))

-- a line has 11 bytes for each of its words, and one more
pub lines-most : (n : ℕ) (w : List ℕ) → length (lines_in n w) ≤ length w * places + n
unfolding lines_in
lines-most zero w = omega arith
lines-most (suc n) w = simp length-append (omega (arith, line-long (take (entry_words w) w), length-take (entry_words w) w, length-drop (entry_words w) w, lines-most n (drop (entry_words w) w)))

-- i entries are printed, and what is left decides the whole
pub record Printing (old w : List ℕ) (n : ℕ) (out : List ℕ) (end : ℕ) (rest : List ℕ) (i : ℕ) : Type 0 where
  pub inside : i ≤ n
  pub long : length out ≡ length old
  pub is : over old 0 (lines_in n w) ≡ over out end (lines_in (n - i) rest)
  pub ends : length (lines_in n w) ≡ end + length (lines_in (n - i) rest)

pub print-start : (old w : List ℕ) (n : ℕ) → Printing old w n old 0 w 0
print-start old w n = record { inside = omega arith; long = refl; is = rw sub-zero; ends = rw sub-zero (omega arith) }

module _ {old w out rest : List ℕ} {n end i own : ℕ} (p : Printing old w n out end rest i) (h : i < n) (room : length w * places + n ≤ length old) (e : own ≡ front_words rest) where
  -- the entry's line, and what is left behind it
  left_is : lines_in (n - i) rest ≡ line (take own rest) ++ lines_in (n - (i + 1)) (drop own rest)
  unfolding lines_in
  left_is =
      let left : n - i ≡ suc (n - (i + 1)) = omega arith in
      rw (left, e, take_min (entry_words rest) rest, drop_min (entry_words rest) rest)

  pub print-room : {entry : List ℕ} → entry ≡ take own rest → end + line_bytes (length entry) ≤ length out
  print-room {entry} a = rw a (omega (arith, p.long, p.ends, lines-most n w, ap length left_is ∙ length-append (line (take own rest)) (lines_in (n - (i + 1)) (drop own rest)), line-long (take own rest)))

  pub print-next : {entry behind new : List ℕ} {r : ℕ} → entry ≡ take own rest → behind ≡ drop own rest → Writes out end (line entry) new r → Printing old w n new r behind (i + 1)
  print-next {entry} {behind} {new} {r} a b f =
      let l = line entry in
      let after = lines_in (n - (i + 1)) behind in
      let two : lines_in (n - i) rest ≡ l ++ after = rw (a, b) left_is in
      let both : length (lines_in (n - i) rest) ≡ length l + length after = ap length two ∙ length-append l after in
      record {
        inside = omega arith;
        long = rw f.written (length_over out end l ∙ p.long);
        is = p.is ∙ rw (two, f.written, f.next_is) (sym (over-two out l after end (omega (arith, p.long, p.ends, lines-most n w))));
        ends = omega (arith, p.ends, f.next_is);
      }

pub print-end : {old w out rest : List ℕ} {n end i : ℕ} → Printing old w n out end rest i → n ≤ i → length w * places + n ≤ length old → Writes old 0 (lines_in n w) out end
unfolding lines_in
print-end {old} {w} {out} {rest} {n} {end} {i} p h room =
    let none : n - i ≡ 0 = omega arith in
    let e : length (lines_in n w) ≡ end = rw none at p.ends ∙ omega arith in
    record { written = sym (p.is ∙ rw none (over-nil out end)); next_is = omega arith }

pub ruleset printing = (print-start, print-room, print-next, print-end, rules)

-- ---- `write_list`, `write_refusal`: what is written from the front on is printed

prints-of : {old bytes new : List ℕ} {r : ℕ} → Writes old 0 bytes new r → length bytes ≤ length old → Prints old bytes new r
prints-of {old} {bytes} f h =
    record { count = f.next_is ∙ zero-add (length bytes); printed = f.written ∙ over-fits old 0 bytes (omega arith) ∙ rw (zero-add (length bytes)) }

-- a refusal's line
pub prints-refusal : {old new : List ℕ} {r : ℕ} (number at : ℕ) → Writes old 0 (line (number ∷ at ∷ [])) new r → length old ≡ output_bytes → Prints old (refusal_line number at) new r
unfolding refusal_line
prints-refusal number at f h = prints-of f (omega (arith, line-long (number ∷ at ∷ [])))

-- the entries' lines, and the last one
pub prints-list : {old mid new : List ℕ} {end r : ℕ} (w : List ℕ) (n stop at : ℕ) → Writes old 0 (lines_in n w) mid end → Writes mid end (line (n ∷ stop ∷ at ∷ [])) new r → n ≤ report_words → length w ≡ report_words → length old ≡ output_bytes → Prints old (lines_in n w ++ line (n ∷ stop ∷ at ∷ [])) new r
prints-list {old} {mid} {new} {end} {r} w n stop at f g few long room =
    let a = lines_in n w in
    let b = line (n ∷ stop ∷ at ∷ []) in
    let k : length a + length b ≤ length old = omega (arith, lines-most n w, line-long (n ∷ stop ∷ at ∷ [])) in
    let z : end ≡ 0 + length a = f.next_is in
    let two : Writes old 0 (a ++ b) new r = record { written = g.written ∙ rw (z, f.written) (over-two old a b 0 (omega arith)); next_is = g.next_is ∙ rw (length-append a b) (omega (arith, f.next_is)) } in
    prints-of two (rw (length-append a b) k)

-- the room for the last line behind them
pub last-room : {old mid : List ℕ} {end : ℕ} (w : List ℕ) (n : ℕ) → Writes old 0 (lines_in n w) mid end → n ≤ report_words → length w ≡ report_words → length old ≡ output_bytes → length mid ≡ length old → end + line_bytes 3 ≤ length mid
last-room w n f few long room same = omega (arith, f.next_is, lines-most n w)

-- ---- the lines of a report that holds a list
entry-front : (e : Entry) (rest : List ℕ) → entry_words (words e ++ rest) ≡ length (words e)
unfolding words
entry-front e rest = omega arith

pub lines_of : (es : List Entry) (rest : List ℕ) → lines_in (length es) (flat es ++ rest) ≡ entry_lines es
unfolding lines_in entry_lines flat
lines_of [] rest = refl
lines_of (e ∷ es) rest =
    rw (append_assoc (words e) (flat es) rest, entry-front e (flat es ++ rest), take_at (words e) (flat es ++ rest) (length (words e)) refl, drop_at (words e) (flat es ++ rest) (length (words e)) refl, lines_of es rest)

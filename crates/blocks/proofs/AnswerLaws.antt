-- Number and value tell which answer it is. How large they are: a refusal's record is one of the sheet, and a list has at most three entries for each record.
use Rattle.std.specs.Prelude.{Err, Ok, is_ok, if◌then◌else◌}
use mathlib.Core.Path.{◌≡◌, refl, ap}
use mathlib.Core.Bool.{Bool, true, false, not, ◌||◌}
use mathlib.Core.List.{List}
use Prim.Native.Nat.{ℕ, zero, suc, ◌+◌, ◌^◌, ◌%◌, ◌<◌, ◌≤◌}
use native.Mathlib.Omega.{arith}
use borrow.Author.Tests.{ltb-false}
use lib.Dec.{eqb, ltb}
use lib.ListN.{length}
use Rattle.leaves.specs.Sheet.Kinds.{is_kind}
use Rattle.leaves.specs.Sheet.Records.{record_words, records_of}
use Rattle.leaves.specs.Refusal.Places.{misplaced}
use Rattle.leaves.specs.Refusal.Fields.{bad_field}
use Rattle.leaves.specs.Sheet.Texts.{text_outside, text_ill_formed}
use Rattle.leaves.specs.declared.sheet.records.Rec.{Rec}
use Rattle.leaves.specs.declared.refusal.places.Open.{Open}
use Rattle.leaves.specs.Report.Entries.{flat}
use Rattle.leaves.proofs.refusal.FormedLaws.{accepted}
use Rattle.leaves.specs.Refusal.Verdict.{judged_answer, or_else, Judged}
use Rattle.leaves.specs.Refusal.Limits.{most_records, most_bytes}
use Rattle.leaves.specs.Refusal.Record.{bad_level, judge_texts, judge}
use Rattle.leaves.specs.Refusal.Judge.{judge_at, judge_from, judge_sheet, sheet_answer}
use Rattle.leaves.specs.Refusal.Tags.{lacks_tags, tags_from}
use Rattle.leaves.specs.declared.refusal.verdict.Malformed.TheVariants.{OddSheet, LongSheet, LongText, UnknownKind, BadLevel, Misplaced, BadField, TextOutside, NotUtf8, TagsMissing}
use Rattle.leaves.proofs.refusal.VerdictLaws.{is-accepted, same_number, same-value, refusal-numbered, refusal-one}
use Rattle.blocks.specs.Walk.{validate_document}
use Rattle.blocks.specs.Check.{checked_answer, check_outcome}
use Rattle.blocks.proofs.CountLaws.{few-accepted}
use Rattle.blocks.specs.Answer.{Checked}
use Rattle.blocks.specs.declared.answer.CheckError.TheVariants.{Malformed, ShortReport}

-- ---- number and value tell which answer it is
pub checked-one : (c d : Checked) → checked_answer c ≡ checked_answer d → c ≡ d
checked-one (Ok m) (Ok n) e = ap Ok (same-value e)
checked-one (Ok m) (Err (Malformed r)) e = absurd (omega (arith, same_number e, (refusal-numbered r).some))
checked-one (Ok m) (Err ShortReport) e = absurd (omega (arith, same_number e))
checked-one (Err (Malformed r)) (Ok n) e = absurd (omega (arith, same_number e, (refusal-numbered r).some))
checked-one (Err (Malformed r)) (Err (Malformed s)) e = ap (λ m. Err (Malformed m)) (refusal-one r s e)
checked-one (Err (Malformed r)) (Err ShortReport) e = absurd (omega (arith, same_number e, (refusal-numbered r).most))
checked-one (Err ShortReport) (Ok n) e = absurd (omega (arith, same_number e))
checked-one (Err ShortReport) (Err (Malformed r)) e = absurd (omega (arith, same_number e, (refusal-numbered r).most))
checked-one (Err ShortReport) (Err ShortReport) e = refl

-- ---- the record of a refusal
either : (b : Bool) (j k : Judged) (n : ℕ) → (judged_answer j).value ≤ n → (judged_answer k).value ≤ n → (judged_answer (if b then j else k)).value ≤ n
either true j k n g h = g
either false j k n g h = h

texts-record : (bytes : List ℕ) (i : ℕ) (r : Rec) → (judged_answer (judge_texts bytes i r)).value ≤ i
unfolding judge_texts
texts-record bytes i r =
    let ill = text_ill_formed bytes r.first || text_ill_formed bytes r.second in
    either (text_outside bytes r.first || text_outside bytes r.second) (Err (TextOutside i)) (if ill then Err (NotUtf8 i) else Ok tt) i (omega arith) (either ill (Err (NotUtf8 i)) (Ok tt) i (omega arith) (omega arith))

judge-record : (bytes : List ℕ) (i : ℕ) (r : Rec) (before : ℕ) (o : Open) → (judged_answer (judge bytes i r before o)).value ≤ i
unfolding judge
judge-record bytes i r before o =
    let texts = judge_texts bytes i r in
    let field = if bad_field r then Err (BadField i) else texts in
    let place = if misplaced o r.kind then Err (Misplaced i) else field in
    let level = if bad_level before r.level then Err (BadLevel i) else place in
    either (not (is_kind r.kind)) (Err (UnknownKind i)) level i (omega arith)
    (either (bad_level before r.level) (Err (BadLevel i)) place i (omega arith)
    (either (misplaced o r.kind) (Err (Misplaced i)) field i (omega arith)
    (either (bad_field r) (Err (BadField i)) texts i (omega arith) (texts-record bytes i r))))

at-record : (w bytes : List ℕ) (i : ℕ) → (judged_answer (judge_at w bytes i)).value ≤ i
unfolding judge_at
at-record w bytes i = judge-record bytes i _ _ _

else-record : (j k : Judged) (n : ℕ) → (judged_answer j).value ≤ n → (judged_answer k).value ≤ n → (judged_answer (or_else j k)).value ≤ n
unfolding or_else
else-record j k n g h = either (is_ok j) k j n h g

from-record : (w bytes : List ℕ) (k i : ℕ) → (judged_answer (judge_from w bytes k i)).value ≤ i + k
unfolding judge_from
from-record w bytes zero i = omega arith
from-record w bytes (suc k) i = else-record (judge_at w bytes i) (judge_from w bytes k (suc i)) (i + suc k) (omega (arith, at-record w bytes i)) (omega (arith, from-record w bytes k (suc i)))

tags-record : (w : List ℕ) (n k i : ℕ) → (judged_answer (tags_from w n k i)).value ≤ i + k
unfolding tags_from
tags-record w n zero i = omega arith
tags-record w n (suc k) i = either (lacks_tags w n i) (Err (TagsMissing i)) (tags_from w n k (suc i)) (i + suc k) (omega arith) (omega (arith, tags-record w n k (suc i)))

pub judged-record : (w bytes : List ℕ) → (sheet_answer w bytes).value ≤ 65535
unfolding judge_sheet
judged-record w bytes = go (ltb most_records (records_of w)) refl
  where
    go : (b : Bool) → ltb most_records (records_of w) ≡ b → (sheet_answer w bytes).value ≤ 65535
    go true e = rw e (either (not (eqb (length w % record_words) 0)) (Err OddSheet) (Err LongSheet) 65535 (omega arith) (omega arith))
    go false e =
        let few : records_of w ≤ 65535 = ltb-false most_records (records_of w) e in
        let judged = or_else (judge_from w bytes (records_of w) 0) (tags_from w (records_of w) (records_of w) 0) in
        let one : (judged_answer (judge_from w bytes (records_of w) 0)).value ≤ 65535 = omega (arith, from-record w bytes (records_of w) 0) in
        let two : (judged_answer (tags_from w (records_of w) (records_of w) 0)).value ≤ 65535 = omega (arith, tags-record w (records_of w) (records_of w) 0) in
        let three : (judged_answer judged).value ≤ 65535 = else-record (judge_from w bytes (records_of w) 0) (tags_from w (records_of w) (records_of w) 0) 65535 one two in
        rw e (either (not (eqb (length w % record_words) 0)) (Err OddSheet) (if ltb most_bytes (length bytes) then Err LongText else judged) 65535 (omega arith) (either (ltb most_bytes (length bytes)) (Err LongText) judged 65535 (omega arith) three))

-- ---- the value of an answer: a list has at most three entries for each record, so that its count always fits in half of a number for C
pub value-word : (w bytes x : List ℕ) → (check_outcome w bytes x).0.value < 2 ^ 32
unfolding check_outcome
value-word w bytes x = go (is_ok (judge_sheet w bytes)) refl (ltb (length x) (length (flat (validate_document w bytes)))) refl
  where
    go : (b : Bool) → is_ok (judge_sheet w bytes) ≡ b → (c : Bool) → ltb (length x) (length (flat (validate_document w bytes))) ≡ c → (check_outcome w bytes x).0.value < 2 ^ 32
    go false e c f = rw e (omega (arith, judged-record w bytes))
    go true e true f = rw (e, f) (omega arith)
    go true e false f =
        let ok = is-accepted (judge_sheet w bytes) e in
        rw (e, f) (omega (arith, few-accepted w bytes ok, (accepted w bytes ok).few))

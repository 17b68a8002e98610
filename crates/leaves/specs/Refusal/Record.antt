-- The tests of one record. Document 01, 'The call': "then 4 to 9 record by record".
use Rattle.std.specs.Prelude.{ℕ, zero, suc, ◌+◌, Bool, not, ◌||◌, List, eqb, ltb, Err, Ok}
use Rattle.std.specs.Prelude.{if◌then◌else◌}
use Rattle.leaves.specs.Sheet.Kinds.{is_kind}
use Rattle.leaves.specs.Sheet.Records.{record_at}
use Rattle.leaves.specs.Refusal.Places.{misplaced}
use Rattle.leaves.specs.Refusal.Fields.{bad_field}
use Rattle.leaves.specs.Sheet.Texts.{text_outside, text_ill_formed}
use Rattle.leaves.specs.Refusal.Limits.{most_level}
use Rattle.leaves.specs.declared.sheet.records.Rec.{Rec}
use Rattle.leaves.specs.declared.refusal.places.Open.{Open}
use Rattle.leaves.specs.Refusal.Verdict.{Judged}
use Rattle.leaves.specs.declared.refusal.verdict.Malformed.TheVariants.{
  UnknownKind,
  BadLevel,
  Misplaced,
  BadField,
  TextOutside,
  NotUtf8,
}

-- the level of the record before; 0 before the first
unfoldable pub level_before : List ℕ → ℕ → ℕ
level_before w zero = 0
level_before w (suc i) = (record_at w i).level

-- 5: "0, over 64, first record not 1, or over previous plus 1"
unfoldable pub bad_level : ℕ → ℕ → Bool
bad_level before level = eqb level 0 || ltb most_level level || ltb (before + 1) level

-- the tests 8 and 9: test 8 is made of both texts before test 9
unfoldable pub judge_texts : List ℕ → ℕ → Rec → Judged
judge_texts bytes i r =
    if text_outside bytes r.first || text_outside bytes r.second
    then Err (TextOutside i)
    else if text_ill_formed bytes r.first || text_ill_formed bytes r.second
    then Err (NotUtf8 i)
    else Ok tt

-- The tests 4 to 9 of record i, which is r. `before` is the level of the record before it, and o is what stands before
-- it under its parent.
unfoldable pub judge : List ℕ → ℕ → Rec → ℕ → Open → Judged
judge bytes i r before o =
    if not (is_kind r.kind)
    then Err (UnknownKind i)
    else if bad_level before r.level
    then Err (BadLevel i)
    else if misplaced o r.kind
    then Err (Misplaced i)
    else if bad_field r
    then Err (BadField i)
    else judge_texts bytes i r

-- What passing the tests says of a record.
use Rattle.std.specs.Prelude.{Err, Ok, is_ok, if◌then◌else◌}
use mathlib.Core.Path.{◌≡◌, refl}
use mathlib.Core.Bool.{Bool, true, false, not, ◌||◌, false≢true}
use mathlib.Core.List.{List}
use Prim.Native.Nat.{ℕ, ◌+◌, ◌<◌, ◌≤◌}
use native.Mathlib.Omega.{arith}
use borrow.Author.Tests.{ltb-false, eqb-false}
use lib.Dec.{eqb, ltb}
use Rattle.leaves.specs.Sheet.Kinds.{is_kind}
use Rattle.leaves.specs.Refusal.Places.{misplaced}
use Rattle.leaves.specs.Refusal.Fields.{bad_field}
use Rattle.leaves.specs.Sheet.Texts.{text_outside, text_ill_formed}
use Rattle.leaves.specs.Refusal.Record.{bad_level, judge_texts, judge}
use Rattle.leaves.specs.declared.sheet.records.Rec.{Rec}
use Rattle.leaves.specs.declared.refusal.places.Open.{Open}
use Rattle.leaves.specs.declared.refusal.verdict.Malformed.TheVariants.{UnknownKind, BadLevel, Misplaced, BadField, TextOutside, NotUtf8}
use Rattle.leaves.proofs.text.TestLaws.{or_left, or_right}

pub record Passed (bytes : List ℕ) (r : Rec) (before : ℕ) (o : Open) : Type 0 where
  pub kind : is_kind r.kind ≡ true
  pub level : bad_level before r.level ≡ false
  pub place : misplaced o r.kind ≡ false
  pub field : bad_field r ≡ false
  pub inside : (text_outside bytes r.first || text_outside bytes r.second) ≡ false
  pub formed : (text_ill_formed bytes r.first || text_ill_formed bytes r.second) ≡ false

pub passed : (bytes : List ℕ) (i : ℕ) (r : Rec) (before : ℕ) (o : Open) → is_ok (judge bytes i r before o) ≡ true → Passed bytes r before o
unfolding judge judge_texts
passed bytes i r before o = go (is_kind r.kind) (bad_level before r.level) (misplaced o r.kind) (bad_field r) (text_outside bytes r.first || text_outside bytes r.second) (text_ill_formed bytes r.first || text_ill_formed bytes r.second) refl refl refl refl refl refl
  where
    go : (k l m f t u : Bool) → is_kind r.kind ≡ k → bad_level before r.level ≡ l → misplaced o r.kind ≡ m → bad_field r ≡ f → (text_outside bytes r.first || text_outside bytes r.second) ≡ t → (text_ill_formed bytes r.first || text_ill_formed bytes r.second) ≡ u → is_ok {T = Unit {0}} (if not k then Err (UnknownKind i) else if l then Err (BadLevel i) else if m then Err (Misplaced i) else if f then Err (BadField i) else if t then Err (TextOutside i) else if u then Err (NotUtf8 i) else Ok tt) ≡ true → Passed bytes r before o
    go false l m f t u a b c d e g h = absurd (false≢true h)
    go true true m f t u a b c d e g h = absurd (false≢true h)
    go true false true f t u a b c d e g h = absurd (false≢true h)
    go true false false true t u a b c d e g h = absurd (false≢true h)
    go true false false false true u a b c d e g h = absurd (false≢true h)
    go true false false false false true a b c d e g h = absurd (false≢true h)
    go true false false false false false a b c d e g h = record { kind = a; level = b; place = c; field = d; inside = e; formed = g }

-- a level that is not bad
pub record Deep (before level : ℕ) : Type 0 where
  pub some : 0 < level
  pub most : level ≤ 64
  pub near : level ≤ before + 1

pub deep : (before level : ℕ) → bad_level before level ≡ false → Deep before level
unfolding bad_level
deep before level h =
    let ab : (eqb level 0 || ltb 64 level) ≡ false = or_left _ (ltb (before + 1) level) h in
    let n : (level ≡ 0 → ⊥) = eqb-false level 0 (or_left (eqb level 0) (ltb 64 level) ab) in
    record { some = omega arith; most = ltb-false _ _ (or_right (eqb level 0) (ltb 64 level) ab); near = ltb-false _ _ (or_right (eqb level 0 || ltb 64 level) (ltb (before + 1) level) h) }

-- a bad level is told whatever stands before the record
pub blind : (bytes : List ℕ) (i : ℕ) (r : Rec) (before : ℕ) (o p : Open) → bad_level before r.level ≡ true → judge bytes i r before o ≡ judge bytes i r before p
unfolding judge
blind bytes i r before o p h = rw h

-- What the marks of ordered items are; that no stop goes by a start number, and that the answer does not go by what the marks held. The run takes no marks.
use mathlib.Core.Path.{◌≡◌, refl, ap, ◌∙◌}
use mathlib.Core.Bool.{Bool, true, false, not}
use mathlib.Core.List.{List, [], ◌∷◌, get_last_d}
use Prim.Native.Nat.{ℕ, ◌+◌}
use native.Mathlib.Omega.{arith}
use lib.Dec.{ltb}
use lib.ListN.{length}
use borrow.Author.Tests.{eq-eqb}
use Rattle.std.specs.Prelude.{is_ok, if◌then◌else◌}
use Rattle.leaves.proofs.text.LastLaws.{last-cons}
use Rattle.leaves.specs.Sheet.Kinds.{item}
use Rattle.leaves.specs.Sheet.Records.{records_of}
use Rattle.leaves.specs.Refusal.Verdict.{answer}
use Rattle.leaves.specs.Refusal.Judge.{judge_sheet, sheet_answer}
use Rattle.setter.specs.Answer.{short_marks, refused_as}
use Rattle.leaves.specs.declared.sheet.records.Rec.{Rec}
use Rattle.setter.specs.Steps.{Frame, with_kid}
use Rattle.setter.specs.Seen.{number_or_1, start_number, Seen, seen}
use Rattle.setter.specs.Stops.{Moment, stop_at}
use Rattle.setter.specs.Marks.{mark_of}
use Rattle.setter.specs.SetOutcome.{after_run, set_outcome}

-- ---- the items of an ordered list are numbered on from the first
item-mark : (r : Rec) (s : Seen) → r.kind ≡ item → s.ordered ≡ true → mark_of r s ≡ s.start_number + s.siblings_before
unfolding mark_of
item-mark r s e o = rw (e, o)

-- f opens as an item of the ordered list g, which is open
module _ (f g : Frame) (around : List Frame) (fi : f.of.kind ≡ item) (ordered : g.of.a ≡ 1) where
  -- the first item is marked by its own number, or 1
  pub first-number : g.kids ≡ [] → mark_of f.of (seen f (g ∷ around)) ≡ number_or_1 f.of
  unfolding start_number get_last_d
  first-number e = item-mark f.of (seen f (g ∷ around)) fi (eq-eqb _ _ ordered) ∙ rw e (omega arith)

  -- an item straight behind item h is marked one more than h
  pub next-number : (h : Frame) → h.of.kind ≡ item → mark_of f.of (seen f (with_kid h.of g ∷ around)) ≡ mark_of h.of (seen h (g ∷ around)) + 1
  unfolding start_number
  next-number h hi =
      let x = item-mark f.of (seen f (with_kid h.of g ∷ around)) fi (eq-eqb _ _ ordered) in
      let y = item-mark h.of (seen h (g ∷ around)) hi (eq-eqb _ _ ordered) in
      let z = ap number_or_1 (last-cons h.of f.of g.kids) in
      omega (arith, x, y, z)

-- ---- no mark decides anything
-- what is seen, with another start number
abbrev started_at : ℕ → Seen → Seen
started_at n s = record { columns = s.columns; nearest = s.nearest; linked = s.linked; ordered = s.ordered; siblings_before = s.siblings_before; broke = s.broke; joins = s.joins; start_number = n; kids = s.kids; empty = s.empty }

-- no stop goes by the start number
pub stops-alike : (m : Moment) (bytes : List ℕ) (r : Rec) (s : Seen) (n : ℕ) → stop_at m bytes r (started_at n s) ≡ stop_at m bytes r s
unfolding stop_at
stops-alike m bytes r s n = refl

-- the answer is the same whatever the marks held before
pub answers-alike : (w bytes ms ns : List ℕ) → length ms ≡ length ns → (set_outcome w bytes ms).0 ≡ (set_outcome w bytes ns).0
unfolding set_outcome after_run
answers-alike w bytes ms ns e = rw e (go (is_ok (judge_sheet w bytes)) (ltb (length ns) (records_of w)))
  where
    go : (a b : Bool) → (if not a then (refused_as (sheet_answer w bytes), ms) else if b then (refused_as (answer short_marks 0), ms) else after_run w bytes ms).0 ≡ (if not a then (refused_as (sheet_answer w bytes), ns) else if b then (refused_as (answer short_marks 0), ns) else after_run w bytes ns).0
    go false b = refl
    go true true = refl
    go true false = refl

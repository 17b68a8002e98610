-- What stands before a record under its parent, kept by level; and the records judged one after another.
use Rattle.std.specs.Prelude.{Ok, Err}
use mathlib.Core.Path.{◌≡◌, refl, sym, ◌∙◌}
use mathlib.Core.Bool.{Bool, true, false}
use mathlib.Core.List.{List}
use Prim.Native.Nat.{ℕ, suc, ◌+◌, ◌-◌, ◌<◌, ◌≤◌}
use native.Mathlib.Numerals.{add-one}
use native.Mathlib.Nat.{sub-zero}
use native.Mathlib.Omega.{arith}
use borrow.Author.Rules.{rules}
use borrow.Author.Tests.{not-true, not-false, le-leb, lt-leb, eqb-true, eqb-false}
use lib.Dec.{eqb}
use lib.ListN.{length, get_or, set, replicate, length-set}
use lib.Seq.{get_or-set_same, get_or-set_other}
use Rattle.leaves.specs.Sheet.Records.{record_at}
use Rattle.leaves.specs.Refusal.Groups.{parent_group}
use Rattle.leaves.specs.Refusal.Places.{before_children, after_child, open_at}
use Rattle.leaves.specs.Refusal.Verdict.{or_else, Judged}
use Rattle.leaves.specs.Refusal.Record.{level_before, bad_level, judge}
use Rattle.leaves.specs.Refusal.Judge.{judge_at, judge_from}
use Rattle.leaves.specs.Refusal.Judging.{slot_of, Slot}
use Rattle.leaves.specs.declared.sheet.records.Rec.{Rec}
use Rattle.leaves.specs.declared.refusal.places.Open.{Open}
use Rattle.leaves.specs.declared.refusal.verdict.Malformed.{Malformed}
use Rattle.leaves.specs.Sheet.Siblings.{fold_siblings}
use Rattle.leaves.proofs.refusal.OpenLaws.{open-kid, open-same, open_above}
use Rattle.leaves.proofs.refusal.VerdictLaws.{or-first, or-second}
use Rattle.leaves.proofs.refusal.PassLaws.{Passed, passed, Deep, deep, blind}

-- ---- where a level's state is kept
pub slot-low : (level : ℕ) → level ≤ 64 → Slot level level
slot-low level h = record { is = rw (le-leb level 64 h); most = h }

pub slot-high : (level : ℕ) → 64 < level → Slot level 0
slot-high level h = record { is = rw (lt-leb level 64 h); most = omega arith }

slot-in : (level : ℕ) → level ≤ 64 → level ≡ slot_of level
slot-in level h = rw (le-leb level 64 h)

-- ---- the states that are kept by level
abbrev pub closed : Open
closed = record { group = 0; stage = 0; tags = 0 }

pub record Kept (w : List ℕ) (i before : ℕ) (os : List Open) : Type 0 where
  pub is : before ≡ level_before w i
  pub most : before ≤ 64
  pub long : length os ≡ 66
  pub each : (l : ℕ) → l ≤ before → get_or os (l + 1) closed ≡ open_at w (l + 1) i

pub kept-start : (w : List ℕ) {o : Open} → o ≡ before_children 0 → Kept w 0 0 (replicate 66 o)
unfolding level_before before_children open_at fold_siblings
kept-start w e =
    record {
      is = refl;
      most = omega arith;
      long = refl;
      each = λ l h. let z : l ≡ 0 = omega arith in rw (z, e);
    }

-- the record at i is judged by what is kept of its level
module _ (w bytes : List ℕ) (i before : ℕ) (os : List Open) (k : Kept w i before os) where
  slot-open : Deep before (record_at w i).level → get_or os (slot_of (record_at w i).level) closed ≡ open_at w (record_at w i).level i
  slot-open d =
      let n : (record_at w i).level - 1 + 1 ≡ (record_at w i).level = omega arith in
      rw (← slot-in (record_at w i).level d.most) (rw n at (k.each ((record_at w i).level - 1) (omega arith)))

  pub judged-at : {j : Judged} {r : Rec} {slot : ℕ} → j ≡ judge bytes i r before (get_or os slot closed) → r ≡ record_at w i → slot ≡ slot_of r.level → j ≡ judge_at w bytes i
  unfolding judge_at
  judged-at e f g = e ∙ rw (g, f, ← k.is) (go (bad_level before (record_at w i).level) refl)
    where
      go : (t : Bool) → bad_level before (record_at w i).level ≡ t → judge bytes i (record_at w i) before (get_or os (slot_of (record_at w i).level) closed) ≡ judge bytes i (record_at w i) before (open_at w (record_at w i).level i)
      go true h = blind bytes i (record_at w i) before _ _ h
      go false h = rw (slot-open (deep before (record_at w i).level h))

  -- the states after a record that passed
  module _ (d : Deep before (record_at w i).level) {p q : Open} (ep : p ≡ after_child (open_at w (record_at w i).level i) (record_at w i).kind) (eq : q ≡ before_children (parent_group (record_at w i).kind (record_at w i).a)) where
    each_next : (l : ℕ) → l ≤ (record_at w i).level → get_or (set (set os (record_at w i).level p) ((record_at w i).level + 1) q) (l + 1) closed ≡ open_at w (l + 1) (i + 1)
    each_next l h = go (eqb l (record_at w i).level) (eqb (l + 1) (record_at w i).level) refl refl
      where
        go : (t u : Bool) → eqb l (record_at w i).level ≡ t → eqb (l + 1) (record_at w i).level ≡ u → get_or (set (set os (record_at w i).level p) ((record_at w i).level + 1) q) (l + 1) closed ≡ open_at w (l + 1) (i + 1)
        go true u a b =
            let e : (record_at w i).level ≡ l = sym (eqb-true _ _ a) in
            let n : l + 1 < length (set os l p) = simp length-set (omega (arith, k.long)) in
            rw (e, get_or-set_same (set os l p) (l + 1) q closed n) (eq ∙ sym (open-kid w i l e))
        go false true a b =
            let e : (record_at w i).level ≡ l + 1 = sym (eqb-true _ _ b) in
            let n : l + 1 < length os = omega (arith, k.long) in
            rw (e, get_or-set_other (set os (l + 1) p) (l + 1 + 1) (l + 1) q closed (λ z. absurd (omega arith)), get_or-set_same os (l + 1) p closed n) (ep ∙ rw e (sym (open-same w i (l + 1) e)))
        go false false a b =
            let x : (l ≡ (record_at w i).level → ⊥) = eqb-false _ _ a in
            let y : (l + 1 ≡ (record_at w i).level → ⊥) = eqb-false _ _ b in
            rw (get_or-set_other (set os (record_at w i).level p) ((record_at w i).level + 1) (l + 1) q closed (λ z. absurd (omega arith)), get_or-set_other os (record_at w i).level (l + 1) p closed y) (k.each l (omega arith) ∙ sym (open_above w i (l + 1) (omega arith)))

    next-kept : Kept w (i + 1) (record_at w i).level (set (set os (record_at w i).level p) ((record_at w i).level + 1) q)
    unfolding level_before
    next-kept = record { is = rw (add-one i) refl; most = d.most; long = simp length-set k.long; each = each_next }

  -- the same by what the calls answered
  pub kept_next : {r : Rec} {p q : Open} {slot : ℕ} {g : ℕ} → q ≡ before_children g → g ≡ parent_group r.kind r.a → p ≡ after_child (get_or os slot closed) r.kind → slot ≡ slot_of r.level → r ≡ record_at w i → Passed bytes r before (get_or os slot closed) → Kept w (i + 1) r.level (set (set os slot p) (slot + 1) q)
  kept_next {r} {p} {q} {slot} {g} eq eg ep f e c =
      let d : Deep before (record_at w i).level = rw e at (deep before r.level c.level) in
      let s : slot ≡ slot_of (record_at w i).level = rw e at f in
      let at_slot : slot ≡ (record_at w i).level = s ∙ sym (slot-in (record_at w i).level d.most) in
      let p' : p ≡ after_child (open_at w (record_at w i).level i) (record_at w i).kind = ep ∙ rw (s, e, slot-open d) refl in
      let q' : q ≡ before_children (parent_group (record_at w i).kind (record_at w i).a) = eq ∙ rw (eg, e) refl in
      rw (e, at_slot) (next-kept d p' q')

-- ---- the loop over the records: what is left decides the whole
pub record Judging (w bytes : List ℕ) (n i before : ℕ) (os : List Open) : Type 0 where
  pub within : i ≤ n
  pub same : judge_from w bytes n 0 ≡ judge_from w bytes (n - i) i
  pub kept : Kept w i before os

from_step : (w bytes : List ℕ) (n i : ℕ) → i < n → judge_from w bytes (n - i) i ≡ or_else (judge_at w bytes i) (judge_from w bytes (n - (i + 1)) (i + 1))
unfolding judge_from
from_step w bytes n i h = let e : n - i ≡ suc (n - (i + 1)) = omega arith in rw (e, add-one i)

pub judging-start : (w bytes : List ℕ) (n : ℕ) {o : Open} → o ≡ before_children 0 → Judging w bytes n 0 0 (replicate 66 o)
judging-start w bytes n e = record { within = omega arith; same = rw sub-zero; kept = kept-start w e }

module _ (w bytes : List ℕ) (n i before : ℕ) (os : List Open) (h : i < n) (v : Judging w bytes n i before os) {j : Judged} {r : Rec} {slot : ℕ} (ej : j ≡ judge bytes i r before (get_or os slot closed)) (er : r ≡ record_at w i) (es : slot ≡ slot_of r.level) where
  pub judging-stop : {m : Malformed} → j ≡ Err m → Err m ≡ judge_from w bytes n 0
  judging-stop {m} e = sym (v.same ∙ from_step w bytes n i h ∙ rw (← judged-at w bytes i before os v.kept ej er es) (or-first j _ (rw e) ∙ e))

  pub judging-passed : {u : Unit {0}} → j ≡ Ok u → Passed bytes r before (get_or os slot closed)
  judging-passed e = passed bytes i r before (get_or os slot closed) (rw (← ej, e))

  pub judging-turn : {u : Unit {0}} {p q : Open} {g : ℕ} → j ≡ Ok u → q ≡ before_children g → g ≡ parent_group r.kind r.a → p ≡ after_child (get_or os slot closed) r.kind → Judging w bytes n (i + 1) r.level (set (set os slot p) (slot + 1) q)
  judging-turn e eq eg ep =
      record {
        within = omega arith;
        same = v.same ∙ from_step w bytes n i h ∙ rw (← judged-at w bytes i before os v.kept ej er es) (or-second j _ (rw e));
        kept = kept_next w bytes i before os v.kept eq eg ep es er (judging-passed e);
      }

pub judging-end : (w bytes : List ℕ) (n i before : ℕ) (os : List Open) → n ≤ i → Judging w bytes n i before os → Ok tt ≡ judge_from w bytes n 0
unfolding judge_from
judging-end w bytes n i before os h v = let e : n - i ≡ 0 = omega (arith, v.within) in sym (v.same ∙ rw e)

pub ruleset records-judged = (judging-start, judging-stop, judging-turn, judging-end, slot-low, slot-high, not-true, not-false, rules)

-- A list that was written, and demand 3 of the entries that the check wrote.
use Rattle.std.specs.Prelude.{Ok, is_ok}
use mathlib.Core.Path.{◌≡◌, refl, sym, ap, ◌∙◌}
use mathlib.Core.Bool.{Bool, true, false, true≢false}
use mathlib.Core.List.{List, ◌++◌}
use Prim.Native.Nat.{ℕ, ◌≤◌}
use native.Mathlib.Omega.{arith}
use borrow.Author.Tests.{ltb-false}
use lib.Dec.{ltb}
use lib.ListN.{length, drop}
use Rattle.leaves.specs.Report.Entries.{flat, entries_in}
use Rattle.leaves.proofs.report.EntryLaws.{read_back}
use Rattle.leaves.specs.Refusal.Verdict.{Answer}
use Rattle.leaves.specs.Refusal.Judge.{judge_sheet, sheet_answer}
use Rattle.leaves.proofs.refusal.VerdictLaws.{none-refused, is-accepted}
use Rattle.blocks.specs.Walk.{validate_document}
use Rattle.blocks.specs.Check.{checked_answer, check_outcome}
use Rattle.blocks.specs.Answer.{Checked}
use Rattle.setter.specs.Answer.{SetAnswer, Answers}
use Rattle.setter.specs.SetOutcome.{set_outcome}
use Rattle.setter.specs.Agrees.{Agrees, Demand}
use Rattle.setter.proofs.agrees.Demand.{demand-accepted}
use Rattle.setter.specs.Both.{ChecksAndSets}

-- a check that lists has accepted the sheet, and the report begins with the whole list: n entries in the report y, which was x
pub record Written (w bytes x y : List ℕ) (n : ℕ) : Type 0 where
  pub accepted : judge_sheet w bytes ≡ Ok tt
  pub count : n ≡ length (validate_document w bytes)
  pub holds : y ≡ flat (validate_document w bytes) ++ drop (length (flat (validate_document w bytes))) x
  pub fits : length (flat (validate_document w bytes)) ≤ length x

pub written : (w bytes x : List ℕ) → (check_outcome w bytes x).0.number ≡ 0 → Written w bytes x (check_outcome w bytes x).1 (check_outcome w bytes x).0.value
unfolding check_outcome
written w bytes x z = go (is_ok (judge_sheet w bytes)) refl (ltb (length x) (length (flat (validate_document w bytes)))) refl
  where
    go : (a : Bool) → is_ok (judge_sheet w bytes) ≡ a → (b : Bool) → ltb (length x) (length (flat (validate_document w bytes))) ≡ b → Written w bytes x (check_outcome w bytes x).1 (check_outcome w bytes x).0.value
    go false p b q =
        let none : (sheet_answer w bytes).number ≡ 0 = rw p at z in
        absurd (true≢false (sym (ap is_ok (none-refused (judge_sheet w bytes) none)) ∙ p))
    go true p true q = let y : ◌≡◌ {A = ℕ} 11 0 = rw (p, q) at z in absurd (omega arith)
    go true p false q = record { accepted = is-accepted (judge_sheet w bytes) p; count = rw (p, q); holds = rw (p, q); fits = ltb-false _ _ q }

-- .. and demand 3 holds of the entries that are read back from the report
pub written-agrees : (w bytes x : List ℕ) {y : List ℕ} {n : ℕ} → Written w bytes x y n → Agrees w bytes (entries_in n y)
unfolding Demand
written-agrees w bytes x b = rw (b.count, b.holds, read_back (validate_document w bytes) (drop (length (flat (validate_document w bytes))) x)) (demand-accepted w bytes b.accepted)

pub both-done : (w bytes report marks : List ℕ) {checked : Checked} {y : List ℕ} {set : SetAnswer} {marked : List ℕ} → (checked_answer checked, y) ≡ check_outcome w bytes report → Answers (set_outcome w bytes marks) set marked → ChecksAndSets w bytes report marks checked y set marked
both-done w bytes report marks {checked} {y} c m =
    let a : checked_answer checked ≡ (check_outcome w bytes report).0 = ap (λ (p : Answer × List ℕ). p.0) c in
    let b : y ≡ (check_outcome w bytes report).1 = ap (λ (p : Answer × List ℕ). p.1) c in
    record {
      check = c;
      machine = m;
      demand = λ z. written-agrees w bytes report (rw (a, b) (written w bytes report (rw a at z)));
    }

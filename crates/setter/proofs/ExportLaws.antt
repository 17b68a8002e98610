-- What the C functions promise, from what the check and the machine do; and demand 3 from the two promises.
use Rattle.std.specs.Prelude.{Ok, is_ok}
use mathlib.Core.Path.{◌≡◌, refl, sym, ap, ◌∙◌}
use mathlib.Core.Bool.{Bool, true, false}
use mathlib.Core.List.{List}
use Prim.Native.Nat.{ℕ, ◌^◌, ◌/◌, ◌%◌, ◌<◌}
use native.Mathlib.Omega.{arith}
use lib.ListN.{length}
use lib.Dec.{ltb}
use Rattle.leaves.specs.Sheet.Records.{records_of}
use Rattle.leaves.specs.Report.Entries.{entries_in}
use Rattle.leaves.specs.Refusal.Verdict.{Answer, answer}
use Rattle.leaves.specs.Refusal.Judge.{judge_sheet}
use Rattle.leaves.proofs.refusal.VerdictLaws.{is-accepted}
use Rattle.blocks.specs.Check.{check_outcome}
use Rattle.blocks.proofs.AnswerLaws.{judged-record, value-word}
use Rattle.setter.specs.Machine.{run_answer}
use Rattle.setter.specs.Answer.{SetAnswer, setting_answer, Answers}
use Rattle.setter.specs.SetOutcome.{after_run, set_outcome}
use Rattle.setter.specs.Agrees.{Agrees}
use Rattle.setter.specs.Exports.{Halves, CheckPromise, SetPromise, Shipped}
use Rattle.setter.proofs.agrees.Inside.{run_inside}
use Rattle.setter.proofs.BothLaws.{Written, written, written-agrees}

-- ---- the check
module _ (w bytes x : List ℕ) {c : Answer} {y : List ℕ} (e : (c, y) ≡ check_outcome w bytes x) {n v : ℕ} (a : n ≡ c.number) (b : v ≡ c.value) where
  of-check : answer n v ≡ (check_outcome w bytes x).0
  of-check = rw (a, b) (ap (λ (p : Answer × List ℕ). p.0) e)

  pub check-fits : v < 2 ^ 32
  check-fits = rw (ap (λ (p : Answer). p.value) of-check) (value-word w bytes x)

-- ---- the machine: its value is one of the sheet's records, or their number
set_word : (w bytes x : List ℕ) → (set_outcome w bytes x).0.value < 2 ^ 32
unfolding set_outcome after_run
set_word w bytes x = go (is_ok (judge_sheet w bytes)) refl (ltb (length x) (records_of w)) refl
  where
    go : (b : Bool) → is_ok (judge_sheet w bytes) ≡ b → (c : Bool) → ltb (length x) (records_of w) ≡ c → (set_outcome w bytes x).0.value < 2 ^ 32
    go false a c f = rw a (omega (arith, judged-record w bytes))
    go true a true f = rw (a, f) (omega arith)
    go true a false f = rw (a, f) (omega (arith, run_inside w bytes (is-accepted (judge_sheet w bytes) a)))

module _ (w bytes x : List ℕ) {s : SetAnswer} {y : List ℕ} (e : Answers (set_outcome w bytes x) s y) {n v : ℕ} (a : n ≡ (setting_answer s).number) (b : v ≡ (setting_answer s).value) where
  of-set : answer n v ≡ (set_outcome w bytes x).0
  of-set = rw (a, b) (ap (λ (p : Answer × List ℕ). p.0) e.answer)

  pub set-fits : v < 2 ^ 32
  set-fits = rw (ap (λ (p : Answer). p.value) of-set) (set_word w bytes x)

-- ---- demand 3 of what a C caller holds

-- where the sheet is accepted and the marks are not refused, the machine's answer is that of the run
set-ran : (w bytes x : List ℕ) → judge_sheet w bytes ≡ Ok tt → (set_outcome w bytes x).0.number < 256 → (set_outcome w bytes x).0 ≡ run_answer w bytes
unfolding set_outcome after_run
set-ran w bytes x a h = go (ltb (length x) (records_of w)) refl
  where
    go : (c : Bool) → ltb (length x) (records_of w) ≡ c → (set_outcome w bytes x).0 ≡ run_answer w bytes
    go true f = absurd (let z : 268 < 256 = rw (a, f) at h in omega arith)
    go false f = rw (a, f)

-- a number is its halves
whole-number : (r n : ℕ) → Halves r (answer 0 n) → r ≡ n
whole-number r n h = omega (arith, h.number, h.value)

pub shipped : (w bytes report marks : List ℕ) {checked : ℕ} {y : List ℕ} {set : ℕ} {marked : List ℕ} → CheckPromise w bytes report checked y → SetPromise w bytes marks set marked → checked / 2 ^ 32 ≡ 0 → Shipped w bytes checked y set
unfolding run_answer entries_in
shipped w bytes report marks {checked} {y} {set} c m z =
    let b : Written w bytes report y (checked % 2 ^ 32) = rw (c.words, c.answer.value) (written w bytes report (sym c.answer.number ∙ z)) in
    let agrees : Agrees w bytes (entries_in (checked % 2 ^ 32) y) = written-agrees w bytes report b in
    let ran : set / 2 ^ 32 < 256 → Halves set (run_answer w bytes) = λ h. rw (set-ran w bytes marks b.accepted (rw m.answer.number at h)) at m.answer in
    record {
      agrees = agrees;
      ran = ran;
      clean = λ e h. whole-number set (records_of w) (rw (agrees.empty (rw e)).end at (ran h));
    }

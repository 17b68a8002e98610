-- The answer of the check, by the tests that lead to it.
use Rattle.std.specs.Prelude.{Err, Ok}
use mathlib.Core.Path.{◌≡◌, refl, sym, ap, ◌∙◌}
use mathlib.Core.List.{List, [], ◌∷◌, ◌++◌}
use Prim.Native.Nat.{ℕ, ◌*◌, ◌^◌, ◌<◌, ◌≤◌}
use native.Mathlib.Omega.{arith}
use borrow.Author.Tests.{lt-ltb, le-ltb}
use lib.ListN.{length, drop}
use Rattle.leaves.specs.Report.Entries.{Entry, WritesEntries, flat, empty_tally, after}
use Rattle.leaves.specs.declared.report.entries.Tally.{Tally}
use Rattle.leaves.proofs.report.EntryLaws.{entries-counted, counted-fits, counted-short, counted-whole, put_whole}
use Rattle.leaves.specs.Refusal.Judge.{judge_sheet, Judges}
use Rattle.leaves.specs.Refusal.Formed.{Sound}
use Rattle.leaves.specs.Refusal.Verdict.{Judged}
use Rattle.leaves.proofs.refusal.FormedLaws.{accepted}
use Rattle.blocks.specs.Walk.{validate_document}
use Rattle.blocks.specs.Check.{checked_answer, check_outcome}
use Rattle.blocks.specs.declared.answer.CheckError.TheVariants.{ShortReport}

module _ (w bytes : List ℕ) {j : Judged} (e : Judges w bytes j) where
  pub accepts : {u : Unit {0}} → j ≡ Ok u → judge_sheet w bytes ≡ Ok tt
  accepts h = sym e.enum ∙ h

  pub check_sound : {u : Unit {0}} → j ≡ Ok u → Sound w bytes
  check_sound h = accepted w bytes (accepts h)

-- ---- a sheet that is accepted: what the first walk measured, and what the second wrote
pub no-entries : (es : List Entry) → length es ≡ 0 → es ≡ []
no-entries [] h = refl
no-entries (e ∷ es) h = absurd (omega arith)

module _ (w bytes x : List ℕ) (a : judge_sheet w bytes ≡ Ok tt) (room : length x * 4 < 2 ^ 63) where
  is-listed : length (flat (validate_document w bytes)) ≤ length x → check_outcome w bytes x ≡ (checked_answer (Ok (length (validate_document w bytes))), flat (validate_document w bytes) ++ drop (length (flat (validate_document w bytes))) x)
  unfolding check_outcome
  is-listed h = rw (a, le-ltb _ _ h)

  module _ {t : Tally} (m : t ≡ after empty_tally (validate_document w bytes)) where
    pub check-none : t.entries ≡ 0 → (checked_answer (Ok 0), x) ≡ check_outcome w bytes x
    unfolding flat
    check-none h =
        let c : (after empty_tally (validate_document w bytes)).entries ≡ 0 = rw m at h in
        let z : validate_document w bytes ≡ [] = no-entries (validate_document w bytes) (omega (arith, entries-counted (validate_document w bytes))) in
        sym (is-listed (rw z (omega arith)) ∙ rw z)

    pub check-short : length x < t.words → (checked_answer (Err ShortReport), x) ≡ check_outcome w bytes x
    unfolding check_outcome
    check-short h =
        let s : length x < length (flat (validate_document w bytes)) = counted-short (validate_document w bytes) x room (rw m at h) in
        rw (a, lt-ltb _ _ s)

    pub check-listed : {r : Tally} {y : List ℕ} → t.words ≤ length x → WritesEntries empty_tally r x y (validate_document w bytes) → (checked_answer (Ok r.entries), y) ≡ check_outcome w bytes x
    check-listed {r} {y} h l =
        let fits : (after empty_tally (validate_document w bytes)).words ≤ length x = rw m at h in
        let f : length (flat (validate_document w bytes)) ≤ length x = counted-fits (validate_document w bytes) x room fits in
        let e : r.entries ≡ length (validate_document w bytes) = rw l.tally (ap (λ (k : Tally). k.entries) (counted-whole (validate_document w bytes) x room fits)) in
        let v : y ≡ flat (validate_document w bytes) ++ drop (length (flat (validate_document w bytes))) x = rw l.written (put_whole x (validate_document w bytes) room f) in
        (λ i. (checked_answer (Ok (e i)), v i)) ∙ sym (is-listed f)

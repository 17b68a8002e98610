-- What is printed for a sheet and its text, by the answers of the check and of the machine.
use Rattle.std.specs.Prelude.{Ok, is_ok}
use mathlib.Core.Path.{◌≡◌, refl, sym, ap, ◌∙◌}
use mathlib.Core.Bool.{Bool, true, false}
use mathlib.Core.List.{List, [], ◌∷◌, ◌++◌}
use Prim.Native.Nat.{ℕ, suc, ◌*◌, ◌≤◌}
use native.Mathlib.Omega.{arith}
use borrow.Author.Tests.{le-ltb, ltb-true, ltb-false, eq-eqb, ne_eqb}
use mir.Syntax.{w32}
use mir.Val.{Fits}
use lib.Dec.{ltb}
use lib.ListN.{length, take, replicate, length-take, length-replicate}
use lib.Seq.{take_all, take_at}
use Rattle.leaves.specs.Sheet.Records.{record_words, records_of}
use Rattle.leaves.specs.Report.Entries.{flat}
use Rattle.leaves.proofs.report.EntryLaws.{few-entries}
use Rattle.leaves.specs.Refusal.Verdict.{Answer, answer}
use Rattle.leaves.specs.Refusal.Judge.{judge_sheet}
use Rattle.blocks.specs.Walk.{validate_document}
use Rattle.setter.specs.Machine.{run_answer}
use Rattle.setter.specs.Answer.{SetAnswer, setting_answer, Answers}
use Rattle.setter.specs.SetOutcome.{after_run, set_outcome}
use Rattle.blocks.specs.Check.{check_outcome}
use Rattle.blocks.proofs.CheckLaws.{no-entries}
use Rattle.blocks.specs.Answer.{Checked, check_error_answer, checked_answer}
use Rattle.blocks.specs.declared.answer.CheckError.{CheckError}
use Rattle.blocks.specs.declared.answer.CheckError.TheVariants.{Malformed, ShortReport}
use Rattle.blocks.proofs.AnswerLaws.{value-word}
use Rattle.leaves.proofs.refusal.VerdictLaws.{same_number, same-value, refusal-numbered}
use Rattle.leaves.specs.Text.Columns.{line}
use Rattle.setter.specs.Listing.Film.{record_count, behind_counts, film_sheet, text_behind, film_text, most_film_records, most_input, film_of, Reads}
use Rattle.setter.specs.Listing.FilmAnswer.{film_answer}
use Rattle.setter.specs.declared.listing.film_answer.FilmError.{FilmError}
use Rattle.setter.specs.declared.listing.film_answer.FilmError.TheVariants.{BadColumn, BigFilm}
use Rattle.std.specs.Prelude.{Ok, Err}
use Rattle.setter.proofs.listing.FilmLaws.{Good, good, sheet-long}
use Rattle.setter.proofs.listing.CutLaws.{cut}
use Rattle.setter.specs.Listing.Print.{report_words, refusal_line, entry_lines, list_lines, Prints}
use Rattle.setter.specs.Listing.PrintInWords.{lines_in}
use Rattle.setter.proofs.listing.PrintLaws.{lines_of}
use Rattle.setter.specs.Listing.Program.{checked_with, sheet_lines, listing, Page}
use Rattle.setter.proofs.agrees.Inside.{run_inside}
use Rattle.setter.proofs.agrees.Demand.{demand-accepted}
use Rattle.setter.specs.Agrees.{Demand}
use Rattle.setter.proofs.BothLaws.{Written, written}

-- ---- the check's answer goes by how long the report is, and not by its words
answer-same : (w bytes x z : List ℕ) → length x ≡ length z → (check_outcome w bytes x).0 ≡ (check_outcome w bytes z).0
unfolding check_outcome
answer-same w bytes x z h = go (is_ok (judge_sheet w bytes)) refl (ltb (length z) (length (flat (validate_document w bytes)))) refl
  where
    go : (a : Bool) → is_ok (judge_sheet w bytes) ≡ a → (b : Bool) → ltb (length z) (length (flat (validate_document w bytes))) ≡ b → (check_outcome w bytes x).0 ≡ (check_outcome w bytes z).0
    go false p b q = rw p
    go true p true q = rw (p, h, q)
    go true p false q = rw (p, h, q)

-- ---- the machine's answer, where the sheet was accepted and has no more records than marks
ran : (w bytes m : List ℕ) → judge_sheet w bytes ≡ Ok tt → records_of w ≤ length m → (set_outcome w bytes m).0 ≡ run_answer w bytes
unfolding set_outcome after_run
ran w bytes m a h = rw (a, le-ltb _ _ h)

-- ---- the check's answer, where it is a count and where it is an error
pub counted-answer : {k : Checked} {entries : ℕ} → k ≡ Ok entries → answer 0 entries ≡ checked_answer k
counted-answer p = rw p

pub error-answer : {k : Checked} {error : CheckError} {number value : ℕ} → k ≡ Err error → number ≡ (check_error_answer error).number → value ≡ (check_error_answer error).value → answer number value ≡ checked_answer k
error-answer p a b = rw (p, a, b)

error-numbered : (error : CheckError) → (check_error_answer error).number ≡ 0 → ⊥
error-numbered (Malformed r) h = absurd (omega (arith, (refusal-numbered r).some))
error-numbered ShortReport h = absurd (omega arith)

-- ---- `list_sheet`: x is the report before the check, and y after it
module _ (w bytes x : List ℕ) {y : List ℕ} {c : Answer} {number value : ℕ} (e : (c, y) ≡ check_outcome w bytes x) (long : length x ≡ report_words) (s : answer number value ≡ c) where
  a : number ≡ c.number
  a = same_number s

  b : value ≡ c.value
  b = same-value s

  answer-is : c ≡ (check_outcome w bytes x).0
  answer-is = ap (λ (u : Answer × List ℕ). u.0) e

  checked-is : checked_with w bytes ≡ c
  checked-is = answer-same w bytes (replicate report_words 0) x (length-replicate {A = ℕ} report_words 0 ∙ sym long) ∙ sym answer-is

  pub value-fits : Fits w32 value
  value-fits = record { fits = rw (b, answer-is) (value-word w bytes x) }

  pub refusal-printed : (error : CheckError) {old new : List ℕ} {r : ℕ} → number ≡ (check_error_answer error).number → Prints old (refusal_line number value) new r → Prints old (sheet_lines w bytes) new r
  unfolding sheet_lines
  refusal-printed error n p = rw (checked-is, ← a, ← b, ne_eqb _ _ (λ z. error-numbered error (sym n ∙ z))) p

  module _ (h : number ≡ 0) where
    list-is : Written w bytes x y value
    list-is = rw (b, answer-is, ap (λ (u : Answer × List ℕ). u.1) e) (written w bytes x (rw (a, answer-is) at h))

    pub list-few : value ≤ report_words
    list-few = omega (arith, few-entries (validate_document w bytes), list-is.fits, list-is.count)

    module _ (marks : List ℕ) {m : List ℕ} {set : SetAnswer} {stop at : ℕ} (q : Answers (set_outcome w bytes marks) set m) (few : records_of w ≤ most_film_records) (same : length marks ≡ most_film_records) (f : stop ≡ (setting_answer set).number) (g : at ≡ (setting_answer set).value) where
      run_is : setting_answer set ≡ run_answer w bytes
      run_is = ap (λ (u : Answer × List ℕ). u.0) q.answer ∙ ran w bytes marks list-is.accepted (omega arith)

      pub at-fits : Fits w32 at
      at-fits = record { fits = rw (g, run_is) (omega (arith, run_inside w bytes list-is.accepted)) }

      pub list-printed : {old new : List ℕ} {r : ℕ} → Prints old (lines_in value y ++ line (value ∷ stop ∷ at ∷ [])) new r → Prints old (sheet_lines w bytes) new r
      unfolding sheet_lines list_lines
      list-printed p =
          let stop-at : stop ≡ (run_answer w bytes).number = f ∙ ap (λ (p : Answer). p.number) run_is in
          let at-is : at ≡ (run_answer w bytes).value = g ∙ ap (λ (p : Answer). p.value) run_is in
          let lines : lines_in value y ≡ entry_lines (validate_document w bytes) = rw (list-is.count, list-is.holds) (lines_of (validate_document w bytes) _) in
          rw (checked-is, ← a, eq-eqb _ _ h, ← lines, ← list-is.count, ← stop-at, ← at-is) p

-- ---- `list`: the film is refused, or was read into the words of a sheet
refused : (e : FilmError) → (film_answer (Err e)).number ≡ 0 → ⊥
refused BadColumn h = cc
refused BigFilm h = cc

pub film-printed : {s old sheet out new : List ℕ} {e : FilmError} {number k : ℕ} → Reads s old sheet (Err e) → number ≡ (film_answer (Err e)).number → Prints out (refusal_line number 0) new k → Prints out (listing s) new k
unfolding listing
film-printed {e = e} r a p =
    rw (← r.answer, ne_eqb _ _ (refused e), ← a) p

module _ {s old sheet : List ℕ} {n : ℕ} (r : Reads s old sheet (Ok n)) where
  number_is : (film_of s).number ≡ 0
  number_is = sym (ap (λ (p : Answer). p.number) r.answer)

  ready : Good s
  ready = good s number_is

  n-is : n ≡ record_count s
  n-is = ap (λ (p : Answer). p.value) (r.answer ∙ ready.answer)

  pub ready-few : n ≤ most_film_records
  ready-few = omega (arith, n-is, ready.few)

  sheet-is : take (n * record_words) sheet ≡ film_sheet s
  unfolding film_sheet
  sheet-is = rw (r.words, ready.filled old) (take_at (film_sheet s) _ (n * record_words) (sheet-long (record_count s) (behind_counts s) ∙ rw n-is))

  pub ready-long : n * record_words ≡ length (take (n * record_words) sheet)
  unfolding film_sheet
  ready-long = rw (sheet-is, n-is) (sym (sheet-long (record_count s) (behind_counts s)))

  pub ready-room : n * record_words ≤ length sheet
  ready-room = omega (arith, ready-long, length-take (n * record_words) sheet)

  pub ready-printed : {out new text : List ℕ} {k : ℕ} → text ≡ text_behind n s → Prints out (sheet_lines (take (n * record_words) sheet) text) new k → Prints out (listing s) new k
  unfolding listing
  ready-printed {text = text} e p =
      let t : text ≡ film_text s = e ∙ rw n-is in
      rw (number_is, ← sheet-is, ← t) p

-- ---- what is cut off behind the largest film says nothing: who reads no more than one byte more lists the same
pub listing-cut : (s : List ℕ) → listing (take (suc most_input) s) ≡ listing s
unfolding listing
listing-cut s = go (ltb most_input (length s)) refl
  where
    go : (b : Bool) → ltb most_input (length s) ≡ b → listing (take (suc most_input) s) ≡ listing s
    go true e = let k = cut s (ltb-true _ _ e) in rw (k.same, k.refused)
    go false e = rw (take_all (suc most_input) s (omega (arith, ltb-false most_input (length s) e)))

-- ---- an empty list is printed with stop 0 and all records, by demand 3
empty-page : (s : List ℕ) → (film_of s).number ≡ 0 → checked_with (film_sheet s) (film_text s) ≡ answer 0 0 → listing s ≡ list_lines [] 0 (records_of (film_sheet s))
unfolding listing sheet_lines Demand run_answer
empty-page s f c =
    let b = written (film_sheet s) (film_text s) (replicate report_words 0) (ap (λ (p : Answer). p.number) c) in
    let z : validate_document (film_sheet s) (film_text s) ≡ [] = no-entries _ (sym b.count ∙ ap (λ (p : Answer). p.value) c) in
    rw (eq-eqb _ _ f, c, z, ((demand-accepted (film_sheet s) (film_text s) b.accepted).empty z).end)

pub page : (s old new : List ℕ) (n : ℕ) → Prints old (listing s) new n → Page s old new n
page s old new n p = record { prints = p; empty = empty-page s }

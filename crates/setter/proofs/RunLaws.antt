-- The machine's loop, a turn for each opening and closing: what is kept by level is what the open records show, and what is left decides the answer and the marks.
use Rattle.std.specs.Prelude.{Ok, if◌then◌else◌}
use mathlib.Core.Path.{◌≡◌, refl, sym, ap, ◌∙◌}
use mathlib.Core.Bool.{Bool, true, false}
use mathlib.Core.List.{List, [], ◌∷◌}
use Prim.Native.Nat.{ℕ, suc, ◌+◌, ◌-◌, ◌*◌, ◌<◌, ◌≤◌}
use native.Mathlib.Numerals.{add-one}
use native.Mathlib.Nat.{sub-zero}
use native.Mathlib.Omega.{arith}
use borrow.Author.Tests.{ltb-true, ltb-false, le-leb, lt-leb, leb-true, leb-false}
use lib.Dec.{ltb, leb}
use lib.ListN.{length, get_or, set, replicate, length-set}
use lib.Seq.{get_or-set_same, get_or-set_other}
use Rattle.leaves.specs.Sheet.Records.{record_words, records_of, record_at}
use Rattle.leaves.specs.Sheet.Forest.{records_from}
use Rattle.leaves.specs.declared.sheet.records.Rec.{Rec}
use Rattle.leaves.specs.Refusal.Judge.{judge_sheet}
use Rattle.leaves.specs.Refusal.Record.{level_before}
use Rattle.leaves.proofs.refusal.PassLaws.{Deep, deep}
use Rattle.leaves.proofs.refusal.FormedLaws.{each-passed, accepted}
use Rattle.leaves.specs.Refusal.Limits.{most_item_number}
use Rattle.setter.specs.Steps.{Frame, fresh, with_kid, the_sheet, Step, closings, steps_from, steps_of, opens, closes}
use Rattle.setter.specs.Machine.{run_of, run, run_answer}
use Rattle.setter.specs.Marks.{mark_of, marks_of}
use Rattle.setter.specs.Stops.{opening, closing, stop_at, stop_of}
use Rattle.setter.specs.Seen.{only_empty, seen}
use Rattle.setter.proofs.StepLaws.{Low, open-one, close-one, goes_on, stops-here}
use Rattle.setter.specs.Kept.{most_kids, start_behind, kept_of, seen_by, opened_in, after_kid}
use Rattle.setter.specs.declared.kept.Kept.{Kept}
use Rattle.setter.proofs.SetLaws.{stop-numbered}
use Rattle.setter.proofs.KeptLaws.{seen-kept, opened-kept, kid-kept, small-number, start-small}
use Rattle.setter.specs.Answer.{stop_number, Answers}
use Rattle.setter.specs.SetOutcome.{after_run}
use Rattle.setter.specs.MachineRunning.{next_level}
use Rattle.setter.specs.declared.answer.Setting.TheVariants.{Ended, Stopped}
use Rattle.setter.specs.declared.answer.Stop.{Stop}

-- ---- the levels of an accepted sheet
module _ (w bytes : List ℕ) (ok : judge_sheet w bytes ≡ Ok tt) where
  deep-at : (i : ℕ) → i < records_of w → Deep (level_before w i) (record_at w i).level
  deep-at i h = deep (level_before w i) (record_at w i).level (each-passed w bytes ok i h).level

  first-near : 0 < records_of w → (record_at w 0).level ≤ 0 + 1
  unfolding level_before
  first-near h = (deep-at 0 h).near

  next-near : (i : ℕ) → i + 1 < records_of w → (record_at w (i + 1)).level ≤ (record_at w i).level + 1
  unfolding level_before
  next-near i h = rw (add-one i) (deep-at (suc i) (omega arith)).near

-- ---- the open records, and what is kept of them by level

-- what no record is kept as
abbrev pub unkept : Kept
unkept = record { at = 0; columns = 0; nearest = 0; linked = false; ordered = false; kids = 0; broke = false; marker = 0; empty = false; start_number = 0 }

-- an open record f, where i records have opened, m of them under it and still open
pub record One (w : List ℕ) (n i m : ℕ) (os : List Kept) (f : Frame) (st : List Frame) : Type 0 where
  pub level : f.of.level ≡ length st
  pub kept : get_or os (length st) unkept ≡ kept_of f st
  pub from : 0 < length st → (f.at < n) × (f.of ≡ record_at w f.at)
  pub few : m + length f.kids ≤ i
  pub small : start_behind f.kids ≤ most_item_number
  pub own : f.of.b ≡ 1 → f.of.c ≤ most_item_number

unfoldable pub Held : List ℕ → ℕ → ℕ → ℕ → List Kept → List Frame → Type 0
Held w n i m os [] = Unit {0}
Held w n i m os (f ∷ st) = One w n i m os f st × Held w n i 1 os st

-- a level above them changes, and one record more has opened
module _ (w : List ℕ) (n : ℕ) (os : List Kept) (j : ℕ) (q : Kept) where
  one_set : (i k m p : ℕ) (f : Frame) (st : List Frame) → length st < j → p + i ≤ m + k → One w n i m os f st → One w n k p (set os j q) f st
  one_set i k m p f st h g o =
      record {
        level = o.level;
        kept = rw (get_or-set_other os j (length st) q unkept (λ z. omega arith)) o.kept;
        from = o.from;
        few = omega (arith, o.few);
        small = o.small;
        own = o.own;
      }

  held-set : (i k : ℕ) (st : List Frame) → length st ≤ j → i ≤ k → Held w n i 1 os st → Held w n k 1 (set os j q) st
  unfolding Held
  held-set i k [] h g u = tt
  held-set i k (f ∷ st) h g u = (one_set i k 1 1 f st (omega arith) (omega arith) u.0, held-set i k st (omega arith) g u.1)

-- ---- the loop

-- n records, of which i have opened, and the records from the sheet down to a level are open: `old` are the marks before, and `new` those so far
pub record Running (w bytes old : List ℕ) (n : ℕ) (new : List ℕ) (os : List Kept) (depth i : ℕ) : Type 0 where
  pub ok : judge_sheet w bytes ≡ Ok tt
  pub all : n ≡ records_of w
  pub few : n ≤ 65535
  pub room : n ≤ length new
  pub same : length new ≡ length old
  pub within : i ≤ n
  pub near : i < n → (record_at w i).level ≤ depth + 1
  pub long : length os ≡ 65
  pub shallow : depth ≤ 64
  pub top : Frame
  pub around : List Frame
  pub deep : length around ≡ depth
  pub held : Held w n i 0 os (top ∷ around)
  pub ends : (run w bytes).end ≡ (run_of bytes (steps_from (record { top = top; around = around }) i (records_from w (n - i) i))).end
  pub marked : marks_of (run w bytes).steps old ≡ marks_of (run_of bytes (steps_from (record { top = top; around = around }) i (records_from w (n - i) i))).steps new

pub run-start : (w bytes marks : List ℕ) (n : ℕ) {k : Kept} → k ≡ kept_of the_sheet [] → judge_sheet w bytes ≡ Ok tt → n ≡ records_of w → n ≤ length marks → Running w bytes marks n marks (replicate 65 k) 0 0
unfolding Held start_behind run steps_of
run-start w bytes marks n e ok all room =
    record {
      ok = ok;
      all = all;
      few = omega (arith, (accepted w bytes ok).few);
      room = room;
      same = refl;
      within = omega arith;
      near = λ h. first-near w bytes ok (omega arith);
      long = refl;
      shallow = omega arith;
      top = the_sheet;
      around = [];
      deep = refl;
      held = (record { level = refl; kept = e; from = λ h. absurd (omega arith); few = omega arith; small = omega arith; own = λ h. absurd (omega arith) }, tt);
      ends = rw (sub-zero, all);
      marked = rw (sub-zero, all);
    }

-- the records that are left
left-more : (w : List ℕ) (n i : ℕ) → i < n → records_from w (n - i) i ≡ record_at w i ∷ records_from w (n - (i + 1)) (i + 1)
unfolding records_from
left-more w n i h = let e : n - i ≡ suc (n - (i + 1)) = omega arith in rw (e, add-one i)

left-none : (w : List ℕ) (n i : ℕ) → n ≤ i → records_from w (n - i) i ≡ []
unfolding records_from
left-none w n i h = let e : n - i ≡ 0 = omega arith in rw e

-- after the last record nothing is open
pub run_end : (w bytes old : List ℕ) (n : ℕ) (new : List ℕ) (os : List Kept) (depth i : ℕ) → Running w bytes old n new os depth i → n ≤ i → depth ≤ 0 → Answers (after_run w bytes old) (Ok (Ended n)) new
unfolding after_run run_answer steps_from closings run_of marks_of
run_end w bytes old n new os depth i v out none_open = go v.around refl
  where
    go : (st : List Frame) → v.around ≡ st → Answers (after_run w bytes old) (Ok (Ended n)) new
    go (g ∷ st) e = absurd (omega (arith, v.deep, ap length e, none_open))
    go [] e = record { answer = rw (v.ends, v.marked, e, left-none w n i out, v.all) }

-- ---- a turn that closes the innermost record

-- the record that closes, what it closes under, and what is left then
pub record Closing (w bytes old : List ℕ) (n : ℕ) (new : List ℕ) (os : List Kept) (depth i : ℕ) : Type 0 where
  pub running : Running w bytes old n new os depth i
  pub top : Frame
  pub under : Frame
  pub around : List Frame
  pub deep : length around + 1 ≡ depth
  pub low : i < n → (record_at w i).level ≤ depth
  pub held : Held w n i 0 os (top ∷ under ∷ around)
  pub ends : (run w bytes).end ≡ (run_of bytes (closes top (under ∷ around) ∷ steps_from (record { top = with_kid top.of under; around = around }) i (records_from w (n - i) i))).end
  pub marked : marks_of (run w bytes).steps old ≡ marks_of (run_of bytes (closes top (under ∷ around) ∷ steps_from (record { top = with_kid top.of under; around = around }) i (records_from w (n - i) i))).steps new

module _ {w bytes old : List ℕ} {n : ℕ} {new : List ℕ} {os : List Kept} {depth i : ℕ} (v : Running w bytes old n new os depth i) where
  -- no record has the level 0, and after the last every level closes
  next-some : 1 ≤ next_level w n i
  next-some = go (leb n i) refl
    where
      go : (b : Bool) → leb n i ≡ b → 1 ≤ (if b then 1 else (record_at w i).level)
      go true e = omega arith
      go false e = let h : i < n = leb-false n i e in (deep-at w bytes v.ok i (omega (arith, v.all))).some

  next-is : i < n → next_level w n i ≡ (record_at w i).level
  next-is h = rw (lt-leb n i h)

  next_low : (m : ℕ) → next_level w n i ≤ m → Low m (records_from w (n - i) i)
  unfolding Low
  next_low m h = go (leb n i) refl
    where
      go : (b : Bool) → leb n i ≡ b → Low m (records_from w (n - i) i)
      go true e = let g : n ≤ i = leb-true n i e in rw (left-none w n i g) (rw e at h)
      go false e = let g : i < n = leb-false n i e in rw (left-more w n i g) (rw e at h)

  pub closes-next : {l : ℕ} → l ≡ next_level w n i → l ≤ depth → Closing w bytes old n new os depth i
  unfolding Held
  closes-next {l} e h = go v.around refl
    where
      low : next_level w n i ≤ depth
      low = rw e at h

      go : (st : List Frame) → v.around ≡ st → Closing w bytes old n new os depth i
      go [] a = absurd (omega (arith, v.deep, ap length a, low, next-some))
      go (g ∷ st) a =
          let at_top : Held w n i 0 os (v.top ∷ g ∷ st) = rw a at v.held in
          let d : length (g ∷ st) ≡ depth = rw a at v.deep in
          let lev : v.top.of.level ≡ depth = at_top.0.level ∙ d in
          let step = close-one v.top g st i depth (records_from w (n - i) i) lev (omega (arith, low, next-some)) (next_low depth low) in
          record {
            running = v;
            top = v.top;
            under = g;
            around = st;
            deep = omega arith;
            low = λ g. rw (next-is g) at low;
            held = at_top;
            ends = rw (a, step) at v.ends;
            marked = rw (a, step) at v.marked;
          }

module _ {w bytes old : List ℕ} {n : ℕ} {new : List ℕ} {os : List Kept} {depth i : ℕ} (z : Closing w bytes old n new os depth i) where
  abbrev after-close : List Step
  after-close = steps_from (record { top = with_kid z.top.of z.under; around = z.around }) i (records_from w (n - i) i)

  top_kept : get_or os depth unkept ≡ kept_of z.top (z.under ∷ z.around)
  unfolding Held
  top_kept = let e : length (z.under ∷ z.around) ≡ depth = omega (arith, z.deep) in rw e at z.held.0.kept

  under-kept : get_or os (depth - 1) unkept ≡ kept_of z.under z.around
  unfolding Held
  under-kept = let e : length z.around ≡ depth - 1 = omega (arith, z.deep) in rw e at z.held.1.0.kept

  top-at : (get_or os depth unkept).at ≡ z.top.at
  unfolding kept_of
  top-at = ap (λ (k : Kept). k.at) top_kept

  pub close-inside : (get_or os depth unkept).at * record_words + record_words ≤ length w
  unfolding Held
  close-inside =
      let h : z.top.at < n = (z.held.0.from (omega arith)).0 in
      rw top-at (omega (arith, (accepted w bytes z.running.ok).whole, z.running.all))

  -- what is kept can be counted on
  pub close-fits : (get_or os (depth - 1) unkept).kids ≤ most_kids
  unfolding Held kept_of
  close-fits =
      let few = z.running.few in
      rw under-kept (omega (arith, z.held.1.0.few, z.running.within, z.running.all))

  module _ {r : Rec} {s : ℕ} (er : r ≡ record_at w (get_or os depth unkept).at) (es : (t : List ℕ) → s ≡ stop_at closing t r (seen_by r (get_or os (depth - 1) unkept) (get_or os depth unkept).kids (get_or os depth unkept).empty)) where
    closes-of : r ≡ z.top.of
    unfolding Held
    closes-of = er ∙ rw top-at (sym (z.held.0.from (omega arith)).1)

    closes-stop : s ≡ stop_of bytes (closes z.top (z.under ∷ z.around))
    unfolding stop_of kept_of
    closes-stop = es bytes ∙ rw (top_kept, under-kept, closes-of) (ap (stop_at closing bytes z.top.of) (seen-kept z.top z.under z.around))

    pub close-stop : {stop : Stop} → s ≡ stop_number stop → Answers (after_run w bytes old) (Ok (Stopped stop (get_or os depth unkept).at)) new
    unfolding after_run run_answer marks_of
    close-stop {stop} e =
        let h : (s ≡ 0 → ⊥) = λ n. omega (arith, (stop-numbered stop).low) in
        let here = stops-here bytes (closes z.top (z.under ∷ z.around)) after-close (rw closes-stop at h) in
        record { answer = rw (z.ends, z.marked, here, top-at, ← e, closes-stop) }

    pub close-turn : {q : Kept} → s ≡ 0 → q ≡ after_kid (get_or os (depth - 1) unkept) r → Running w bytes old n new (set os (depth - 1) q) (depth - 1) i
    unfolding Held marks_of
    close-turn {q} h eq =
        let on = goes_on bytes (closes z.top (z.under ∷ z.around)) after-close (sym closes-stop ∙ h) in
        let d : length z.around ≡ depth - 1 = omega (arith, z.deep) in
        let e : q ≡ kept_of (with_kid z.top.of z.under) z.around = eq ∙ rw (under-kept, closes-of) (kid-kept z.top.of z.under z.around) in
        let o = z.held.1.0 in
        record {
          ok = z.running.ok;
          all = z.running.all;
          few = z.running.few;
          room = z.running.room;
          same = z.running.same;
          within = z.running.within;
          near = λ g. omega (arith, z.low g, z.deep);
          long = simp length-set z.running.long;
          shallow = omega (arith, z.running.shallow);
          top = with_kid z.top.of z.under;
          around = z.around;
          deep = d;
          held = (record { level = o.level; kept = rw d (get_or-set_same os (depth - 1) q unkept (omega (arith, z.running.long, z.running.shallow)) ∙ e); from = o.from; few = omega (arith, o.few); small = start-small z.top.of z.under.kids z.held.0.own o.small; own = o.own }, held-set w n os (depth - 1) q i i z.around (omega arith) (omega arith) z.held.1.1);
          ends = z.ends ∙ rw on;
          marked = z.marked ∙ rw on refl;
        }

-- ---- a turn that opens the next record

pub record Opening (w bytes old : List ℕ) (n : ℕ) (new : List ℕ) (os : List Kept) (depth i : ℕ) : Type 0 where
  pub running : Running w bytes old n new os depth i
  pub inside : i < n
  pub level : (record_at w i).level ≡ depth + 1
  pub most : depth + 1 ≤ 64

module _ {w bytes old : List ℕ} {n : ℕ} {new : List ℕ} {os : List Kept} {depth i : ℕ} (v : Running w bytes old n new os depth i) where
  pub opens-next : {l : ℕ} → l ≡ next_level w n i → depth < l → i < n + depth → Opening w bytes old n new os depth i
  opens-next {l} e h t = go (ltb i n) refl
    where
      go : (b : Bool) → ltb i n ≡ b → Opening w bytes old n new os depth i
      go true a =
          let g : i < n = ltb-true i n a in
          let m : depth < (record_at w i).level = rw (e, next-is v g) at h in
          let most = (deep-at w bytes v.ok i (omega (arith, v.all))).most in
          record { running = v; inside = g; level = omega (arith, v.near g); most = omega (arith, v.near g) }
      go false a =
          let g : n ≤ i = ltb-false i n a in
          let m : depth < 1 = rw (e, le-leb n i g) at h in
          absurd (omega (arith, t))

module _ {w bytes old : List ℕ} {n : ℕ} {new : List ℕ} {os : List Kept} {depth i : ℕ} (z : Opening w bytes old n new os depth i) where
  abbrev top : Frame
  top = z.running.top

  abbrev around : List Frame
  around = z.running.around

  abbrev open_step : Step
  open_step = opens (fresh i (record_at w i)) (top ∷ around)

  abbrev after_open : List Step
  after_open = steps_from (record { top = fresh i (record_at w i); around = top ∷ around }) (i + 1) (records_from w (n - (i + 1)) (i + 1))

  is-kept : get_or os depth unkept ≡ kept_of top around
  unfolding Held
  is-kept = rw z.running.deep at z.running.held.0.kept

  steps-are : steps_from (record { top = top; around = around }) i (records_from w (n - i) i) ≡ open_step ∷ after_open
  unfolding Held
  steps-are =
      let l : (record_at w i).level ≡ suc top.of.level = omega (arith, z.level, z.running.held.0.level, z.running.deep) in
      rw (left-more w n i z.inside, open-one top around i (record_at w i) (records_from w (n - (i + 1)) (i + 1)) l, add-one i)

  pub open-fits : ((get_or os depth unkept).kids ≤ most_kids) × ((get_or os depth unkept).start_number ≤ most_item_number)
  unfolding Held kept_of
  open-fits =
      let few = z.running.few in
      let o = z.running.held.0 in
      rw is-kept (omega (arith, o.few, z.running.within, z.running.all), o.small)

  module _ {r : Rec} {s : ℕ} (er : r ≡ record_at w i) (es : s ≡ stop_at opening bytes r (seen_by r (get_or os depth unkept) 0 true)) where
    seen-is : seen_by r (get_or os depth unkept) 0 true ≡ seen (fresh i (record_at w i)) (top ∷ around)
    unfolding only_empty
    seen-is = rw (is-kept, er) (seen-kept (fresh i (record_at w i)) top around)

    opens-stop : s ≡ stop_of bytes open_step
    unfolding stop_of
    opens-stop = es ∙ rw (seen-is, er)

    pub open-stop : {stop : Stop} → s ≡ stop_number stop → Answers (after_run w bytes old) (Ok (Stopped stop i)) new
    unfolding after_run run_answer marks_of
    open-stop {stop} e =
        let h : (s ≡ 0 → ⊥) = λ n. omega (arith, (stop-numbered stop).low) in
        let here = stops-here bytes open_step after_open (rw opens-stop at h) in
        record { answer = rw (z.running.ends, z.running.marked, steps-are, here, ← e, opens-stop) }

    pub open_turn : {m : ℕ} {q : Kept} → s ≡ 0 → m ≡ mark_of r (seen_by r (get_or os depth unkept) 0 true) → q ≡ opened_in i r (get_or os depth unkept) → Running w bytes old n (set new i m) (set os (depth + 1) q) (depth + 1) (i + 1)
    unfolding Held marks_of start_behind stop_of
    open_turn {m} {q} h em eq =
        let on = goes_on bytes open_step after_open (sym opens-stop ∙ h) in
        let v = z.running in
        let o = v.held.0 in
        let e : q ≡ kept_of (fresh i (record_at w i)) (top ∷ around) = eq ∙ rw (is-kept, er) (opened-kept i (record_at w i) top around) in
        let mark : m ≡ mark_of (record_at w i) (seen (fresh i (record_at w i)) (top ∷ around)) = em ∙ rw (seen-is, er) in
        let d : length (top ∷ around) ≡ depth + 1 = omega (arith, v.deep) in
        let i-small : i < records_of w = omega (arith, z.inside, v.all) in
        record {
          ok = v.ok;
          all = v.all;
          few = v.few;
          room = simp length-set v.room;
          same = simp length-set v.same;
          within = omega (arith, z.inside);
          near = λ g. omega (arith, next-near w bytes v.ok i (omega (arith, g, v.all)), z.level);
          long = simp length-set v.long;
          shallow = z.most;
          top = fresh i (record_at w i);
          around = top ∷ around;
          deep = d;
          held = (record { level = omega (arith, z.level); kept = rw d (get_or-set_same os (depth + 1) q unkept (omega (arith, v.long, z.most)) ∙ e); from = λ g. (z.inside, refl); few = omega arith; small = omega arith; own = λ g. small-number bytes (record_at w i) (seen (fresh i (record_at w i)) (top ∷ around)) (sym opens-stop ∙ h) (each-passed w bytes v.ok i i-small).field g }, (one_set w n os (depth + 1) q i (i + 1) 0 1 top around (omega (arith, v.deep)) (omega arith) o, held-set w n os (depth + 1) q i (i + 1) around (omega (arith, v.deep)) (omega arith) v.held.1));
          ends = v.ends ∙ rw (steps-are, on);
          marked = v.marked ∙ rw (steps-are, on, mark) refl;
        }

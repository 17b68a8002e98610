-- Demand 3.
use Rattle.std.specs.Prelude.{Ok}
use mathlib.Core.Path.{◌≡◌, refl, ap, sym, ◌∙◌}
use mathlib.Core.Logic.{inl, inr, ⊎_elim}
use mathlib.Core.Bool.{Bool, true, false, true≢false}
use mathlib.Core.List.{List, [], ◌∷◌}
use Prim.Native.Nat.{ℕ}
use native.Mathlib.Omega.{arith}
use lib.Dec.{eqb}
use borrow.Author.Tests.{eqb-true, eqb-false}
use Rattle.leaves.specs.Sheet.Kinds.{among}
use Rattle.leaves.specs.Sheet.Forest.{forest_of}
use Rattle.leaves.specs.Report.Entries.{Entry}
use Rattle.leaves.specs.Refusal.Formed.{Sound}
use Rattle.leaves.specs.Refusal.Judge.{judge_sheet}
use Rattle.leaves.proofs.refusal.FormedLaws.{accepted}
use Rattle.blocks.specs.Walk.{validate_document}
use Rattle.blocks.specs.Before.{no_block}
use Rattle.setter.specs.Steps.{the_sheet, Step, steps_of}
use Rattle.setter.specs.Stops.{stop_of}
use Rattle.setter.specs.Machine.{opened_at, record_at_step, frame_path, block_path, reached, stopped, run_of, run, StopsAt, StopsSomewhere}
use Rattle.setter.specs.Seen.{in_link}
use Rattle.setter.specs.Agrees.{SomeEntry, OfSomeStop, OfStop, Whole, Agrees, Demand}
use Rattle.setter.specs.Stops.{Row, stops, beside_in, named_in, beside, named}
use Rattle.setter.proofs.agrees.Flat.{walk_of, once-of, never-of}
use Rattle.setter.proofs.agrees.Fits.{sub-all, Unnamed, Clean, Heard, Quiet, Fits, fits-map}
use Rattle.setter.proofs.agrees.Placed.{group_of, placed_of, deep_of}
use Rattle.setter.proofs.agrees.Blocks.{told_none, hold-blocks, blocks-fit}

-- a rule beside a stop is named
beside-named : (s n : ℕ) (ts : List Row) → beside_in s n ts ≡ true → named_in n ts ≡ true
beside-named s n [] h = h
beside-named s n (t ∷ ts) h = go (eqb s t.stop) refl (among n t.rules) refl (beside-named s n ts)
  where
    go : (x : Bool) → eqb s t.stop ≡ x → (y : Bool) → among n t.rules ≡ y → (beside_in s n ts ≡ true → named_in n ts ≡ true) → named_in n (t ∷ ts) ≡ true
    go x u true v ih = rw v
    go true u false v ih = rw v (ih (rw (u, v) at h))
    go false u false v ih = rw v (ih (rw u at h))

some-named : (s : ℕ) (p : List ℕ) (es : List Entry) → SomeEntry (OfStop s p) es → SomeEntry OfSomeStop es
unfolding SomeEntry named beside
some-named s p [] h = h
some-named s p (e ∷ es) (inl h) = inl (beside-named s e.rule stops h.0)
some-named s p (e ∷ es) (inr h) = inr (some-named s p es h)

none_named : SomeEntry OfSomeStop [] → ⊥
unfolding SomeEntry
none_named h = h

unnamed-none : (es : List Entry) → Unnamed es → SomeEntry OfSomeStop es → ⊥
unfolding SomeEntry Unnamed
unnamed-none [] u h = h
unnamed-none (e ∷ es) u (inl h) = true≢false (sym h ∙ u.0)
unnamed-none (e ∷ es) u (inr h) = unnamed-none es u.1 h

-- the run of steps whose stops are all told of
run-told : (bytes : List ℕ) (es : List Entry) (ss : List Step) → Heard bytes es ss → (s i : ℕ) (p : List ℕ) → StopsAt (run_of bytes ss) s i p → SomeEntry (OfStop s p) es
unfolding run_of Heard
run-told bytes es [] h s i p e = absurd (let g : reached ≡ stopped s e.step = e.end in let z : ◌≡◌ {A = ℕ} 0 1 = cc in omega arith)
run-told bytes es (t ∷ ts) h s i p e = go (eqb (stop_of bytes t) 0) refl (run-told bytes es ts h.1 s i p)
  where
    go : (b : Bool) → eqb (stop_of bytes t) 0 ≡ b → (StopsAt (run_of bytes ts) s i p → SomeEntry (OfStop s p) es) → SomeEntry (OfStop s p) es
    go true u ih = ih (record { step = e.step; end = rw u at e.end; at = e.at; block = e.block })
    go false u ih =
        let g : stopped (stop_of bytes t) t ≡ stopped s e.step = rw u at e.end in
        let a : stop_of bytes t ≡ s = cc in
        let b : t ≡ e.step = cc in
        let c : block_path (opened_at t) ≡ p = ap (λ (x : Step). block_path (opened_at x)) b ∙ e.block in
        ⊎_elim (λ z. absurd (eqb-false _ _ u z)) (λ f. rw (a, c) at f.is) h.0

-- a run ends at a stop, or is all of the steps, none of which stops
data Ends (bytes : List ℕ) (ss : List Step) : Type 0 where
  at-stop : StopsSomewhere (run_of bytes ss) → Ends bytes ss
  at-end : Quiet bytes ss → run_of bytes ss ≡ record { steps = ss; end = reached } → Ends bytes ss

run_ends : (bytes : List ℕ) (ss : List Step) → Ends bytes ss
unfolding run_of Quiet
run_ends bytes [] = at-end tt refl
run_ends bytes (t ∷ ts) = go (eqb (stop_of bytes t) 0) refl (run_ends bytes ts)
  where
    go : (b : Bool) → eqb (stop_of bytes t) 0 ≡ b → Ends bytes ts → Ends bytes (t ∷ ts)
    go true u (at-stop h) = at-stop (record { stop = h.stop; at = h.at; path = h.path; is = record { step = h.is.step; end = rw u h.is.end; at = h.is.at; block = h.is.block } })
    go true u (at-end q e) = at-end (eqb-true _ _ u, q) (rw (u, e))
    go false u h = at-stop (record { stop = stop_of bytes t; at = record_at_step t; path = block_path (opened_at t); is = record { step = t; end = rw u; at = refl; block = refl } })

module _ (w bytes : List ℕ) (a : Sound w bytes) where
  -- the whole run against the whole list
  fits_all : Fits bytes (validate_document w bytes) (steps_of w) (Clean (validate_document w bytes))
  unfolding validate_document frame_path in_link group_of
  fits_all =
      rw (walk_of w (deep_of bytes 0 _ (forest_of w) a.tree))
      (fits-map (λ c. c.0)
      ((blocks-fit bytes (forest_of w)).0 (validate_document w bytes) the_sheet [] 0 0 0 no_block 0 (hold-blocks the_sheet.of refl) (placed_of bytes (forest_of w) a.tree) told_none refl (sub-all _) (λ h. absurd (let z : ◌≡◌ {A = ℕ} 0 16 = h in omega arith))))

  -- the run whose end is reached is of all openings and closings
  whole : run_of bytes (steps_of w) ≡ record { steps = steps_of w; end = reached } → Whole w (run w bytes)
  unfolding run
  whole e =
      let deep = deep_of bytes 0 _ (forest_of w) a.tree in
      record { end = rw e; all = rw e; once = λ i h. rw e (once-of w deep i h); other = λ i h. rw e (never-of w deep i h) }

  agrees : Agrees w bytes (validate_document w bytes)
  unfolding run
  agrees =
      record {
        exactly = (λ h. some-named h.stop h.path (validate_document w bytes) (told h.stop h.at h.path h.is), λ h. go (run_ends bytes (steps_of w)) h);
        there = told;
        whole = λ h. go-whole (run_ends bytes (steps_of w)) h;
        empty = λ e. go-whole (run_ends bytes (steps_of w)) (λ h. none_named (rw e at (some-named h.stop h.path (validate_document w bytes) (told h.stop h.at h.path h.is))));
      }
    where
      told : (s i : ℕ) (p : List ℕ) → StopsAt (run_of bytes (steps_of w)) s i p → SomeEntry (OfStop s p) (validate_document w bytes)
      told = run-told bytes (validate_document w bytes) (steps_of w) fits_all.heard

      go : Ends bytes (steps_of w) → SomeEntry OfSomeStop (validate_document w bytes) → StopsSomewhere (run_of bytes (steps_of w))
      go (at-stop s) h = s
      go (at-end q e) h = absurd (unnamed-none (validate_document w bytes) (fits_all.quiet q).is h)

      go-whole : Ends bytes (steps_of w) → (StopsSomewhere (run_of bytes (steps_of w)) → ⊥) → Whole w (run w bytes)
      go-whole (at-stop s) h = absurd (h s)
      go-whole (at-end q e) h = whole e

-- the machine's stops and the check's list agree, on every sheet and text that are formed ..
pub demand : (w bytes : List ℕ) → Sound w bytes → Demand w bytes
unfolding Demand
demand w bytes a = agrees w bytes a

-- .. and so on all that the check accepts
pub demand-accepted : (w bytes : List ℕ) → judge_sheet w bytes ≡ Ok tt → Demand w bytes
demand-accepted w bytes j = demand w bytes (accepted w bytes j)

-- One opening or closing after another: the next of those by levels, and what it does to the run.
use mathlib.Core.Path.{◌≡◌, refl}
use mathlib.Core.List.{List, [], ◌∷◌}
use Prim.Native.Nat.{ℕ, suc, ◌≤◌, ◌<◌}
use native.Mathlib.Omega.{arith}
use borrow.Author.Tests.{le-leb, lt-leb, eq-eqb, ne_eqb}
use Rattle.leaves.specs.declared.sheet.records.Rec.{Rec}
use Rattle.setter.specs.Steps.{Frame, fresh, with_kid, Step, closings, remain, steps_from, opens, closes}
use Rattle.setter.specs.Machine.{stopped, step_then, run_of}
use Rattle.setter.specs.Stops.{stop_of}

-- what comes after is of level m at most
unfoldable pub Low : ℕ → List Rec → Type 0
Low m [] = 1 ≤ m
Low m (r ∷ rs) = r.level ≤ m

module _ (l : ℕ) (f : Frame) (h : f.of.level < l) where
  no-closings : (st : List Frame) → closings l f st ≡ []
  unfolding closings
  no-closings [] = refl
  no-closings (g ∷ st) = rw (lt-leb l f.of.level h)

  no-remain : (st : List Frame) → remain l f st ≡ record { top = f; around = st }
  unfolding remain
  no-remain [] = refl
  no-remain (g ∷ st) = rw (lt-leb l f.of.level h)

-- one opening
pub open-one : (f : Frame) (st : List Frame) (i : ℕ) (r : Rec) (ms : List Rec) → r.level ≡ suc f.of.level → steps_from (record { top = f; around = st }) i (r ∷ ms) ≡ opens (fresh i r) (f ∷ st) ∷ steps_from (record { top = fresh i r; around = f ∷ st }) (suc i) ms
unfolding steps_from
open-one f st i r ms e = rw (no-closings r.level f (omega arith) st, no-remain r.level f (omega arith) st)

-- one closing
pub close-one : (t f : Frame) (st : List Frame) (i m : ℕ) (ms : List Rec) → t.of.level ≡ m → 1 ≤ m → Low m ms → steps_from (record { top = t; around = f ∷ st }) i ms ≡ closes t (f ∷ st) ∷ steps_from (record { top = with_kid t.of f; around = st }) i ms
unfolding steps_from Low closings remain
close-one t f st i m [] e h g = rw (le-leb 1 t.of.level (omega arith))
close-one t f st i m (r ∷ rs) e h g = rw (le-leb r.level t.of.level (omega arith))

-- a step without a stop, and one that stops
module _ (bytes : List ℕ) (s : Step) (ss : List Step) where
  pub goes_on : stop_of bytes s ≡ 0 → run_of bytes (s ∷ ss) ≡ step_then s (run_of bytes ss)
  unfolding run_of
  goes_on e = rw (eq-eqb _ 0 e)

  pub stops-here : (stop_of bytes s ≡ 0 → ⊥) → run_of bytes (s ∷ ss) ≡ record { steps = []; end = stopped (stop_of bytes s) s }
  unfolding run_of
  stops-here e = rw (ne_eqb _ 0 e)

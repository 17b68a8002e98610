-- The record of an opening or a closing is one of the sheet's, and so is that of a stop.
use Rattle.std.specs.Prelude.{Ok}
use mathlib.Core.Path.{◌≡◌, refl}
use mathlib.Core.Bool.{Bool, true, false}
use mathlib.Core.List.{List, [], ◌∷◌, ◌++◌}
use Prim.Native.Nat.{ℕ, suc, ◌+◌, ◌<◌, ◌≤◌}
use native.Mathlib.Omega.{arith}
use lib.Dec.{eqb}
use Rattle.leaves.specs.Sheet.Records.{records_of}
use Rattle.leaves.specs.Sheet.Forest.{Forest, no_tree, tree, forest_of, size}
use Rattle.leaves.specs.Refusal.Judge.{judge_sheet}
use Rattle.leaves.proofs.refusal.FormedLaws.{accepted}
use Rattle.setter.specs.Steps.{Frame, fresh, with_kid, the_sheet, Step, steps_of}
use Rattle.setter.specs.Stops.{stop_of}
use Rattle.setter.specs.Machine.{record_at_step, run_of, run, end_answer, run_answer}
use Rattle.leaves.proofs.sheet.ForestLaws.{size_of}
use Rattle.setter.proofs.agrees.Flat.{walk, walk_of}
use Rattle.setter.proofs.agrees.Placed.{deep_of}

-- every record of the steps is below n
unfoldable Inside : ℕ → List Step → Type 0
Inside n [] = Unit {0}
Inside n (s ∷ ss) = (record_at_step s < n) × Inside n ss

inside-append : (n : ℕ) (a b : List Step) → Inside n a → Inside n b → Inside n (a ++ b)
unfolding Inside
inside-append n [] b h g = g
inside-append n (s ∷ a) b h g = (h.0, inside-append n a b h.1 g)

walk_inside : (n : ℕ) (f : Frame) (st : List Frame) (i : ℕ) (ts : Forest) → i + size ts ≤ n → Inside n (walk f st i ts)
unfolding Inside walk size
walk_inside n f st i no_tree h = tt
walk_inside n f st i (tree r kids rest) h =
    (omega arith, inside-append n (walk (fresh i r) (f ∷ st) (suc i) kids) _ (walk_inside n (fresh i r) (f ∷ st) (suc i) kids (omega arith)) (omega arith, walk_inside n (with_kid r f) st (suc i + size kids) rest (omega arith)))

-- the value of a run over n records is at most n
end-inside : (n : ℕ) (bytes : List ℕ) (ss : List Step) → Inside n ss → (end_answer n (run_of bytes ss).end).value ≤ n
unfolding Inside run_of
end-inside n bytes [] h = omega arith
end-inside n bytes (s ∷ ss) h = go (eqb (stop_of bytes s) 0) refl (end-inside n bytes ss h.1)
  where
    go : (b : Bool) → eqb (stop_of bytes s) 0 ≡ b → (end_answer n (run_of bytes ss).end).value ≤ n → (end_answer n (run_of bytes (s ∷ ss)).end).value ≤ n
    go true e later = rw e later
    go false e later = rw e (omega (arith, h.0))

pub run_inside : (w bytes : List ℕ) → judge_sheet w bytes ≡ Ok tt → (run_answer w bytes).value ≤ 65535
unfolding run_answer run
run_inside w bytes a =
    let sound = accepted w bytes a in
    let inside : Inside (records_of w) (steps_of w) = rw (walk_of w (deep_of bytes 0 _ (forest_of w) sound.tree)) (walk_inside (records_of w) the_sheet [] 0 (forest_of w) (omega (arith, size_of w))) in
    omega (arith, end-inside (records_of w) bytes (steps_of w) inside, sound.few)

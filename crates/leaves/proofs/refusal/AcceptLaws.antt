-- A sheet that is accepted, and what that says of each of its records.
use Rattle.std.specs.Prelude.{Ok, is_ok}
use mathlib.Core.Path.{◌≡◌}
use mathlib.Core.Bool.{true}
use mathlib.Core.List.{List}
use Prim.Native.Nat.{ℕ, zero, suc, ◌+◌, ◌/◌, ◌%◌, ◌<◌, ◌≤◌}
use native.Mathlib.Nat.{add-zero, zero-add}
use native.Mathlib.Omega.{arith}
use lib.ListN.{length}
use Rattle.leaves.specs.Sheet.Records.{record_at}
use Rattle.leaves.specs.Refusal.Places.{open_at}
use Rattle.leaves.specs.Refusal.Verdict.{Judged}
use Rattle.leaves.specs.Refusal.Record.{level_before}
use Rattle.leaves.specs.Refusal.TagsPlaced.{Placed, Containers}
use Rattle.leaves.specs.Refusal.Judge.{judge_at, judge_from}
use Rattle.leaves.proofs.refusal.VerdictLaws.{both_first, both-second}
use Rattle.leaves.proofs.refusal.PassLaws.{Passed, passed}

each_from : (w bytes : List ℕ) (k i m : ℕ) → m < k → is_ok (judge_from w bytes k i) ≡ true → is_ok (judge_at w bytes (i + m)) ≡ true
unfolding judge_from
each_from w bytes zero i m b h = absurd (omega arith)
each_from w bytes (suc k) i zero b h = rw add-zero (both_first (judge_at w bytes i) (judge_from w bytes k (suc i)) h)
each_from w bytes (suc k) i (suc m) b h =
    let e : i + suc m ≡ suc i + m = omega arith in
    rw e (each_from w bytes k (suc i) m (omega arith) (both-second (judge_at w bytes i) (judge_from w bytes k (suc i)) h))

pub every-passed : (w bytes : List ℕ) (n : ℕ) → is_ok (judge_from w bytes n 0) ≡ true → (i : ℕ) → i < n → Passed bytes (record_at w i) (level_before w i) (open_at w (record_at w i).level i)
unfolding judge_at
every-passed w bytes n h i b = passed bytes i (record_at w i) (level_before w i) (open_at w (record_at w i).level i) (rw zero-add at (each_from w bytes n 0 i b h))

placed : (w bytes : List ℕ) (n : ℕ) → is_ok (judge_from w bytes n 0) ≡ true → Placed w n
placed w bytes n h = record { level = λ i b. (every-passed w bytes n h i b).level; place = λ i b. (every-passed w bytes n h i b).place }

-- where the tests 4 to 9 pass, test 10 knows what it asks
pub containers : (w bytes : List ℕ) → length w % 12 ≡ 0 → length w / 12 ≤ 65535 → {j : Judged} → j ≡ judge_from w bytes (length w / 12) 0 → {u : Unit {0}} → j ≡ Ok u → Containers w (length w / 12)
containers w bytes e f g h = record { whole = omega arith; few = f; placed = placed w bytes (length w / 12) (rw (← g, h)) }

-- A directive's name is read as its runs are: `name_from`; and they are what the library's `split` gives. An attribute's
-- name: the first byte, and the bytes behind it.
use mathlib.Core.Path.{◌≡◌, refl, sym}
use mathlib.Core.Bool.{Bool, true, false, not, ◌&&◌, and_assoc, and-true}
use mathlib.Core.List.{List, [], ◌∷◌}
use Prim.Native.Nat.{ℕ, ◌<◌, ◌≤◌}
use native.Mathlib.Omega.{arith}
use lib.Dec.{eqb}
use lib.ListN.{length, get_or, drop}
use Rattle.std.specs.List.{slice_split, list_all}
use Rattle.std.specs.Prelude.{if◌then◌else◌}
use Rattle.leaves.specs.Text.Bytes.{hyphen}
use Rattle.leaves.specs.Text.Lines.{longer}
use Rattle.leaves.specs.Text.Name.{runs, is_run, is_directive_name, begins_run, continues_run, is_attribute_name, begins_attribute, continues_attribute}
use Rattle.leaves.specs.Text.NameScans.{may_stand, name_from}
use Rattle.leaves.proofs.text.ScanLaws.{scan}

runs-split : (s : List ℕ) → slice_split (λ b. eqb b hyphen) s ≡ runs s
unfolding runs longer
runs-split [] = refl
runs-split (b ∷ s) = go (eqb b hyphen) refl (runs s) refl (runs-split s)
  where
    go : (j : Bool) → eqb b hyphen ≡ j → (rs : List (List ℕ)) → runs s ≡ rs → slice_split (λ x. eqb x hyphen) s ≡ runs s → slice_split (λ x. eqb x hyphen) (b ∷ s) ≡ runs (b ∷ s)
    go true e rs f i = rw (e, i)
    go false e [] f i = rw (e, i, f)
    go false e (r ∷ rs) f i = rw (e, i, f)

pub directive-split : (s : List ℕ) → list_all is_run (slice_split (λ b. eqb b hyphen) s) ≡ is_directive_name s
unfolding is_directive_name
directive-split s = rw (runs-split s)

-- runs of which the first has begun already, where `start` is false
abbrev runs_from : Bool → List (List ℕ) → Bool
runs_from true rs = list_all is_run rs
runs_from false [] = true
runs_from false (r ∷ rs) = list_all continues_run r && list_all is_run rs

join : (start : Bool) (rs : List (List ℕ)) → runs_from start ([] ∷ rs) ≡ (not start && list_all is_run rs)
unfolding is_run
join true rs = refl
join false rs = refl

hold : (start : Bool) (b : ℕ) (rs : List (List ℕ)) → runs_from start (longer b rs) ≡ ((if start then begins_run b else continues_run b) && runs_from false rs)
unfolding is_run longer
hold true b [] = and-true (begins_run b && true)
hold false b [] = and-true (continues_run b && true)
hold true b (r ∷ rs) = and_assoc (begins_run b) (list_all continues_run r) (list_all is_run rs)
hold false b (r ∷ rs) = and_assoc (continues_run b) (list_all continues_run r) (list_all is_run rs)

same_runs : (start : Bool) (s : List ℕ) → name_from start s ≡ runs_from start (runs s)
unfolding may_stand name_from runs is_run
same_runs true [] = refl
same_runs false [] = refl
same_runs start (b ∷ s) = go (eqb b hyphen) refl (same_runs true s) (same_runs false s)
  where
    go : (j : Bool) → eqb b hyphen ≡ j → name_from true s ≡ runs_from true (runs s) → name_from false s ≡ runs_from false (runs s) → name_from start (b ∷ s) ≡ runs_from start (runs (b ∷ s))
    go true e t f = rw (e, join, t)
    go false e t f = rw (e, hold, f)

pub directive : (s : List ℕ) → is_directive_name s ≡ name_from true s
unfolding is_directive_name
directive s = sym (same_runs true s)

-- what the call for one byte of a name answers
module _ (start : Bool) (b : ℕ) (s : List ℕ) {fits : Bool} (e : fits ≡ may_stand start b) where
  pub name-yes : fits ≡ true → name_from start (b ∷ s) ≡ name_from (eqb b hyphen) s
  unfolding name_from
  name-yes y = rw (← e, y)

  pub name-no : fits ≡ false → false ≡ name_from start (b ∷ s)
  unfolding name_from
  name-no n = rw (← e, n)

pub name-end : (start : Bool) → not start ≡ name_from start []
unfolding name_from
name-end start = refl

pub ruleset naming = (name-yes, name-no, name-end, scan)

pub run-none : (s : List ℕ) → length s < 1 → false ≡ is_run s
unfolding is_run
run-none [] h = refl
run-none (b ∷ s) h = absurd (omega arith)

pub attribute-none : (s : List ℕ) → length s < 1 → false ≡ is_attribute_name s
unfolding is_attribute_name
attribute-none [] h = refl
attribute-none (b ∷ s) h = absurd (omega arith)

module _ {r : Bool} where
  pub run-no : (s : List ℕ) → 1 ≤ length s → r ≡ begins_run (get_or s 0 0) → r ≡ false → r ≡ is_run s
  unfolding is_run
  run-no [] h e n = absurd (omega arith)
  run-no (b ∷ s) h e n = rw (← e, n)

  pub run-yes : (s : List ℕ) {t : Bool} → 1 ≤ length s → r ≡ begins_run (get_or s 0 0) → r ≡ true → t ≡ list_all continues_run (drop 1 s) → t ≡ is_run s
  unfolding is_run
  run-yes [] h e y f = absurd (omega arith)
  run-yes (b ∷ s) h e y f = rw (← e, y) f

  pub attribute-no : (s : List ℕ) → 1 ≤ length s → r ≡ begins_attribute (get_or s 0 0) → r ≡ false → r ≡ is_attribute_name s
  unfolding is_attribute_name
  attribute-no [] h e n = absurd (omega arith)
  attribute-no (b ∷ s) h e n = rw (← e, n)

  pub attribute-yes : (s : List ℕ) {t : Bool} → 1 ≤ length s → r ≡ begins_attribute (get_or s 0 0) → r ≡ true → t ≡ list_all continues_attribute (drop 1 s) → t ≡ is_attribute_name s
  unfolding is_attribute_name
  attribute-yes [] h e y f = absurd (omega arith)
  attribute-yes (b ∷ s) h e y f = rw (← e, y) f

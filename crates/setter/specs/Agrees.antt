-- Demand 3: the machine's stops and the check's list agree. Document 01: "Demand 3 is one statement over all sheets and
-- texts that both accept, with the whole table of stops in it, and not a statement for each stop or rule. Its list is
-- the entries the check wrote; its run and stop are the machine's on the same sheet and text." The table is `stops`.
use Rattle.std.specs.Prelude.{ℕ, ◌+◌, ◌<◌, ◌≤◌, ◌≡◌, ◌⊎◌, ◌↔◌, true, List, []}
use Rattle.std.specs.Prelude.{◌∷◌, ◌++◌, eqb, if◌then◌else◌}
use Rattle.leaves.specs.Sheet.Records.{records_of}
use Rattle.leaves.specs.Report.Entries.{Entry}
use Rattle.blocks.specs.Walk.{validate_document}
use Rattle.setter.specs.Steps.{Step, opens, closes, steps_of}
use Rattle.setter.specs.Stops.{beside, named}
use Rattle.setter.specs.Machine.{Run, reached, run, StopsAt, StopsSomewhere}

-- ---- what is said of an entry

-- the path q begins with the path p
abbrev pub Begins : List ℕ → List ℕ → Type 0
Begins p q = (t : List ℕ) × (q ≡ p ++ t)

-- P holds of an entry of the list
unfoldable pub SomeEntry : (Entry → Type 0) → List Entry → Type 0
SomeEntry P [] = ⊥
SomeEntry P (e ∷ es) = P e ⊎ SomeEntry P es

-- it is of a rule named beside any of the stops
abbrev pub OfSomeStop : Entry → Type 0
OfSomeStop e = named e.rule ≡ true

-- it is of a rule named beside that very stop, and its path begins with that of the block
abbrev pub OfStop : ℕ → List ℕ → Entry → Type 0
OfStop s p e = (beside s e.rule ≡ true) × Begins p e.path

-- ---- how often record i is opened, and closed
unfoldable pub times_opened : ℕ → List Step → ℕ
times_opened i [] = 0
times_opened i (opens f around ∷ ss) = (if eqb f.at i then 1 else 0) + times_opened i ss
times_opened i (closes f around ∷ ss) = times_opened i ss

unfoldable pub times_closed : ℕ → List Step → ℕ
times_closed i [] = 0
times_closed i (opens f around ∷ ss) = times_closed i ss
times_closed i (closes f around ∷ ss) = (if eqb f.at i then 1 else 0) + times_closed i ss

-- a run that goes through the whole sheet
pub record Whole (w : List ℕ) (r : Run) : Type 0 where
  -- it reaches the end
  pub end : r.end ≡ reached
  -- its steps are all openings and closings of the sheet
  pub all : r.steps ≡ steps_of w
  -- each record is opened exactly once and closed exactly once
  pub once : (i : ℕ) → i < records_of w → (times_opened i r.steps ≡ 1) × (times_closed i r.steps ≡ 1)
  -- and nothing else is
  pub other : (i : ℕ) → records_of w ≤ i → (times_opened i r.steps ≡ 0) × (times_closed i r.steps ≡ 0)

-- ---- the three sentences, of a sheet, its text, and a list of entries
pub record Agrees (w bytes : List ℕ) (es : List Entry) : Type 0 where
  -- the machine stops exactly when the list holds a diagnostic of a rule named beside any of the stops
  pub exactly : StopsSomewhere (run w bytes) ↔ SomeEntry OfSomeStop es
  -- when it stops, the list holds a diagnostic of a rule named beside that very stop whose path begins with the block's
  pub there : (stop i : ℕ) (path : List ℕ)
      → StopsAt (run w bytes) stop i path → SomeEntry (OfStop stop path) es
  -- when it doesn't stop, it opens and closes every record exactly once and reaches the end
  pub whole : (StopsSomewhere (run w bytes) → ⊥) → Whole w (run w bytes)
  -- and so it does whenever the list is empty
  pub empty : es ≡ [] → Whole w (run w bytes)

-- demand 3 of a sheet and its text: `Agrees` of its whole list
unfoldable pub Demand : List ℕ → List ℕ → Type 0
Demand w bytes = Agrees w bytes (validate_document w bytes)

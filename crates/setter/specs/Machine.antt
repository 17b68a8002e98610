-- The run of the setting machine of document 01, and the block that it stops in. Its openings and closings are in
-- `Steps`, its stops in `Stops`, its marks in `Marks`.
-- "It works from the sheet and its text alone, without the checker or its list."
use Rattle.std.specs.Prelude.{ℕ, suc, ◌≡◌, Bool, ◌||◌, List, [], ◌∷◌, ◌++◌, eqb}
use Rattle.std.specs.Prelude.{if◌then◌else◌}
use Rattle.leaves.specs.Sheet.Kinds.{is_block, item}
use Rattle.leaves.specs.Sheet.Records.{records_of}
use Rattle.leaves.specs.declared.sheet.records.Rec.{Rec}
use Rattle.leaves.specs.Refusal.Verdict.{Answer, answer}
use Rattle.setter.specs.Steps.{Frame, Step, opens, closes, steps_of}
use Rattle.setter.specs.Seen.{siblings}
use Rattle.setter.specs.Stops.{stop_of}

-- ---- the block. "The block (kinds 1–17, so no item, row or cell) it stopped in is the one being opened or closed,
-- else the innermost open one." "A block's path has one index for each block and item from the sheet down to that
-- block, itself included: how many blocks or items stand before it under the same parent."

abbrev pub in_path : ℕ → Bool
in_path kind = is_block kind || eqb kind item

-- how many blocks or items are among the siblings
unfoldable pub position : List Rec → ℕ
position [] = 0
position (s ∷ ss) = if in_path s.kind then suc (position ss) else position ss

-- the path of the innermost open record, or of the block or item around it
unfoldable pub frame_path : List Frame → List ℕ
frame_path [] = []
frame_path (f ∷ around) =
    let outer = frame_path around in
    if in_path f.of.kind then outer ++ position (siblings around) ∷ [] else outer

-- the path of the innermost open block
unfoldable pub block_path : List Frame → List ℕ
block_path [] = []
block_path (f ∷ around) =
    let outer = block_path around in
    if is_block f.of.kind then frame_path (f ∷ around) else outer

-- what is open at an opening or a closing, its own record first
abbrev pub opened_at : Step → List Frame
opened_at (opens f around) = f ∷ around
opened_at (closes f around) = f ∷ around

-- the record that is opened or closed
abbrev pub record_at_step : Step → ℕ
record_at_step (opens f around) = f.at
record_at_step (closes f around) = f.at

-- ---- the run: "stated as the list of its openings and closings, in the order they happen, and its answer and marks
-- are those of that run"

-- how a run ends
pub data RunEnd : Type 0 where
  -- nothing is left to open or to close: the machine "is at the end"
  reached : RunEnd
  -- "A stop ends the run": the stop's number, and the opening or closing at which it stops and which does not happen
  stopped : ℕ → Step → RunEnd

pub record Run : Type 0 where
  -- the openings and closings that happen, in their order
  pub steps : List Step
  pub end : RunEnd

-- a run with one opening or closing more at its front
abbrev pub step_then : Step → Run → Run
step_then s r = record { steps = s ∷ r.steps; end = r.end }

-- the run over the openings and closings that are due: up to the first that has a stop
unfoldable pub run_of : List ℕ → List Step → Run
run_of bytes [] = record { steps = []; end = reached }
run_of bytes (s ∷ ss) =
    let later = step_then s (run_of bytes ss) in
    if eqb (stop_of bytes s) 0 then later else record { steps = []; end = stopped (stop_of bytes s) s }

-- the run of a sheet and its text
unfoldable pub run : List ℕ → List ℕ → Run
run w bytes = run_of bytes (steps_of w)

-- the run stopped at this stop, at the opening or closing of this record, in the block of this path
pub record StopsAt (r : Run) (stop i : ℕ) (path : List ℕ) : Type 0 where
  pub step : Step
  pub end : r.end ≡ stopped stop step
  pub at : record_at_step step ≡ i
  pub block : block_path (opened_at step) ≡ path

-- the run stopped: there are such a stop, record and block
pub record StopsSomewhere (r : Run) : Type 0 where
  pub stop : ℕ
  pub at : ℕ
  pub path : List ℕ
  pub is : StopsAt r stop at path

-- "Answer: end and record count, or stop and the record being opened or closed." The number is 0 at the end, as the
-- program prints it ("stop (0 at the end), record").
abbrev pub end_answer : ℕ → RunEnd → Answer
end_answer records reached = answer 0 records
end_answer records (stopped stop s) = answer stop (record_at_step s)

-- the answer of the run of a sheet and its text
unfoldable pub run_answer : List ℕ → List ℕ → Answer
run_answer w bytes = end_answer (records_of w) (run w bytes).end

-- What is found in a file of records, whatever records it holds: `replayed` gives the tally after a record.
use Rattle.std.specs.Prelude.{ℕ, ◌≡◌, List}
use Rattle.std.specs.declared.ops.ControlFlow.{ControlFlow}
use Rattle.std.specs.ControlFlow.{MatchControlFlow}
use Rattle.replay.specs.declared.tally.Tally.{Tally}
use Rattle.replay.specs.Tally.{no_records, differing, together}

-- u is the tally t after some record that is replayed
pub data Went (replayed : List ℕ → Tally → Tally) (t u : Tally) : Type 0 where
  went : (r : List ℕ) → u ≡ replayed r t → Went replayed t u

-- u is the tally t where the file is at its end, or t with a difference more where it ends with one
pub data Finished (t u : Tally) : Type 0 where
  ended : u ≡ t → Finished t u
  broke : u ≡ differing t → Finished t u

-- a step from the tally t: some record is replayed, and another may follow; or the file is at its end; or it ends with a
-- difference
abbrev pub Stepped : (List ℕ → Tally → Tally) → Tally → ControlFlow Tally Tally → Type 0
Stepped replayed t s = MatchControlFlow s (Went replayed t) (Finished t)

-- a tally that is reached from no records by replaying one record after another
pub data Reached (replayed : List ℕ → Tally → Tally) : Tally → Type 0 where
  begins : (t : Tally) → t ≡ no_records → Reached replayed t
  follows : (t u : Tally) (r : List ℕ) → Reached replayed u → t ≡ replayed r u → Reached replayed t

-- what is found in a file: a tally that is reached, or such a tally with a difference more
pub data Found (replayed : List ℕ → Tally → Tally) (t : Tally) : Type 0 where
  whole : Reached replayed t → Found replayed t
  broken : (u : Tally) → Reached replayed u → t ≡ differing u → Found replayed t

-- t is the total with what is found in a file added
pub data AddsFile (replayed : List ℕ → Tally → Tally) (total t : Tally) : Type 0 where
  adds : (found : Tally) → Found replayed found → t ≡ together total found → AddsFile replayed total t

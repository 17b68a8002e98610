-- How the code judges a sheet. A reader need not believe these: the proofs equate what they say with
-- `specs/Refusal/Judge.antt`, and no promise to a caller cites them.
use Rattle.std.specs.Prelude.{◌≡◌, ℕ, ◌≤◌, leb, if◌then◌else◌}
use Rattle.leaves.specs.Refusal.Limits.{most_level}

-- the slot in which the code keeps what stands before a record of a level; 0 where the level is too deep
abbrev pub slot_of : ℕ → ℕ
slot_of level = if leb level most_level then level else 0

pub record Slot (level slot : ℕ) : Type 0 where
  pub is : slot ≡ slot_of level
  pub most : slot ≤ most_level

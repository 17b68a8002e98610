-- What the machine's code goes by from turn to turn. A reader need not believe this: the promise of `set` does not cite
-- it.
use Rattle.std.specs.Prelude.{ℕ, List, leb, if◌then◌else◌}
use Rattle.leaves.specs.Sheet.Records.{record_at}

-- Open records of this level or deeper close next. Before record i opens it is that record's level; after the last of n
-- records it is 1, so that all close.
abbrev pub next_level : List ℕ → ℕ → ℕ → ℕ
next_level w n i = if leb n i then 1 else (record_at w i).level

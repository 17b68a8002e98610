-- The marks of the setting machine. "Each record opened without a stop gets a mark: heading depth; cell's column from
-- 1; .. 0 otherwise. Other marks stay." Order 2: "The machine's mark for an ordered item becomes the first item's
-- number, or 1 without one, plus the item's position from 0." A list holds nothing but items, so an item's position is
-- how many siblings stand before it.
use Rattle.std.specs.Prelude.{ℕ, ◌+◌, ◌&&◌, List, [], ◌∷◌, eqb, set, if◌then◌else◌}
use Rattle.leaves.specs.Sheet.Kinds.{heading, item, cell}
use Rattle.leaves.specs.declared.sheet.records.Rec.{Rec}
use Rattle.setter.specs.Steps.{Step, opens, closes}
use Rattle.setter.specs.Seen.{Seen, seen}

unfoldable pub mark_of : Rec → Seen → ℕ
mark_of r s =
    if eqb r.kind heading
    then r.a
    else if eqb r.kind cell
    then s.siblings_before + 1
    else if eqb r.kind item && s.ordered
    then s.start_number + s.siblings_before
    else 0

-- the marks after the openings and closings of a run
unfoldable pub marks_of : List Step → List ℕ → List ℕ
marks_of [] marks = marks
marks_of (opens f around ∷ ss) marks = marks_of ss (set marks f.at (mark_of f.of (seen f around)))
marks_of (closes f around ∷ ss) marks = marks_of ss marks

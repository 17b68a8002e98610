-- What stands before a record under its parent.
use Rattle.std.specs.Prelude.{List, ℕ, zero, suc, ◌+◌, eqb, if◌then◌else◌}
use Rattle.leaves.specs.Sheet.Records.{record_at}
use Rattle.leaves.specs.declared.sheet.records.Rec.{Rec}

-- Of the records before record i, the parent is the nearest that is one level above `level` (document 01: "Parent:
-- nearest earlier record one level up"); the records of `level` after it are the earlier children.
-- `fold_siblings` goes through them from left to right. It begins with `sheet`, takes `first` at a parent, and takes
-- `next` at each child.
unfoldable pub fold_siblings : {A : Type 0} → A → (Rec → A) → (A → Rec → A)
    → List ℕ → ℕ → ℕ → A
fold_siblings sheet first next w level zero = sheet
fold_siblings sheet first next w level (suc i) =
    let before = fold_siblings sheet first next w level i in
    let r = record_at w i in
    if eqb (r.level + 1) level
    then first r
    else if eqb r.level level
    then next before r
    else before

-- Whether an item is its list's last, by where it stands. A reader need not believe this: `validate_document` does not
-- cite it.
use Rattle.std.specs.Prelude.{Bool, ℕ, ◌+◌, eqb}
use Rattle.leaves.specs.Sheet.Forest.{under, count_trees, size}
use Rattle.leaves.specs.Sheet.Trees.{trees}
use Rattle.leaves.specs.declared.sheet.trees.Records.{Records}

-- whether the trees deeper than `level` that are next are the last that are deeper than `outer`
abbrev pub is_last : Records → ℕ → ℕ → Bool
is_last r level outer =
    let behind = r.next + size (trees r level) in
    eqb (count_trees (under r.sheet.now r.n behind outer)) 0

-- What the walks of `inlines` and `blocks` promise.
use Rattle.std.specs.Prelude.{List, ℕ, ◌+◌}
use Rattle.leaves.specs.Sheet.Forest.{size}
use Rattle.leaves.specs.Sheet.Trees.{trees, Moved}
use Rattle.leaves.specs.Report.Entries.{Entry}
use Rattle.leaves.specs.Report.Listed.{Adds}
use Rattle.leaves.specs.declared.sheet.trees.Records.{Records}
use Rattle.leaves.specs.declared.report.entries.Report.{Report}

-- A walk over the trees that are deeper than `level` made y of the records x, and q of the report p: it has gone on
-- behind those trees, and has listed the entries es.
pub record Walked (x y : Records) (level : ℕ) (p q : Report) (es : List Entry) : Type 0 where
  pub moved : Moved x y (x.next + size (trees x level))
  pub adds : Adds p q es

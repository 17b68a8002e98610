-- The report as the walks write it.
use Rattle.std.specs.Prelude.{◌≡◌, List, [], ◌∷◌, ◌++◌, ℕ, ◌+◌, take}
use Rattle.leaves.specs.Report.Entries.{Entry, WritesEntries}
use Rattle.leaves.specs.declared.report.entries.Report.{Report}

-- the path of the record at which the walk stands
abbrev pub path_of : Report → List ℕ
path_of r = take r.depth r.path

-- y is x with the entries es listed; the walk stands where it stood
pub record Adds (x y : Report) (es : List Entry) : Type 0 where
  pub lists : WritesEntries x.tally y.tally x.words.now y.words.now es
  pub loan : y.words.ghost_name ≡ x.words.ghost_name
  pub path : path_of y ≡ path_of x
  pub depth : y.depth ≡ x.depth
  pub level : y.level ≡ x.level

-- y is x, but the walk has gone on to the child number `index`, whose level is `deeper`
pub record Enters (x y : Report) (index deeper : ℕ) : Type 0 where
  pub words : y.words ≡ x.words
  pub tally : y.tally ≡ x.tally
  pub path : path_of y ≡ path_of x ++ index ∷ []
  pub depth : y.depth ≡ x.depth + 1
  pub level : y.level ≡ deeper

-- y is x, but the walk has gone back to the record that holds the one where it stood, whose level is `outer`
pub record Leaves (x y : Report) (outer : ℕ) : Type 0 where
  pub words : y.words ≡ x.words
  pub tally : y.tally ≡ x.tally
  pub path : y.path ≡ x.path
  pub depth : y.depth + 1 ≡ x.depth
  pub level : y.level ≡ outer

-- The records of a sheet as a walk reads them.
use Rattle.std.specs.Prelude.{◌≡◌, List, ℕ, ◌+◌, ◌<◌}
use Rattle.leaves.specs.Sheet.Records.{record_at, records_of}
use Rattle.leaves.specs.Sheet.Forest.{Forest, no_tree, under}
use Rattle.leaves.specs.declared.sheet.records.Rec.{Rec}
use Rattle.leaves.specs.declared.sheet.trees.Records.{Records}

-- the trees side by side from the next record on that are deeper than a level
abbrev pub trees : Records → ℕ → Forest
trees r level = under r.sheet.now r.n r.next level

-- r stands before the first of all records of the sheet w, whose text is `text`
pub record OfSheet (w text : List ℕ) (r : Records) : Type 0 where
  pub sheet : r.sheet.now ≡ w
  pub bytes : r.bytes.now ≡ text
  pub n : r.n ≡ records_of w
  pub next : r.next ≡ 0

-- y is x, but for its next record, which is record j
pub record Moved (x y : Records) (j : ℕ) : Type 0 where
  pub sheet : y.sheet ≡ x.sheet
  pub bytes : y.bytes ≡ x.bytes
  pub n : y.n ≡ x.n
  pub next : y.next ≡ j

-- y is x, but the sheet ends before record `end`
pub record Until (x y : Records) (end : ℕ) : Type 0 where
  pub sheet : y.sheet ≡ x.sheet
  pub bytes : y.bytes ≡ x.bytes
  pub n : y.n ≡ end
  pub next : y.next ≡ x.next

-- the next record of x is r, which is deeper than a level, and y goes on behind it
pub record ReadsNext (x y : Records) (level : ℕ) (r : Rec) : Type 0 where
  pub inside : x.next < x.n
  pub is : r ≡ record_at x.sheet.now x.next
  pub deep : level < r.level
  pub moved : Moved x y (x.next + 1)

-- no tree deeper than a level comes next in x, and y is x
pub record Ends (x y : Records) (level : ℕ) : Type 0 where
  pub empty : trees x level ≡ no_tree
  pub moved : Moved x y x.next

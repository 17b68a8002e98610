-- The tree that a sheet holds: a record, the records under it, and the siblings after it.
-- Document 01: "Parent: nearest earlier record one level up."
use Rattle.std.specs.Prelude.{List, [], ◌∷◌, ◌++◌, ℕ, zero, suc, ◌+◌, ◌-◌, ltb, eqb}
use Rattle.std.specs.Prelude.{if◌then◌else◌}
use Rattle.leaves.specs.declared.sheet.records.Rec.{Rec}
use Rattle.leaves.specs.Sheet.Records.{record_at, records_of}

pub data Forest : Type 0 where
  no_tree : Forest
  tree : Rec → Forest → Forest → Forest

-- the leading trees deeper than a level
unfoldable pub deeper : ℕ → Forest → Forest
deeper l no_tree = no_tree
deeper l (tree r kids rest) = let t = tree r kids (deeper l rest) in if ltb l r.level then t else no_tree

-- the trees after those
unfoldable pub after_deeper : ℕ → Forest → Forest
after_deeper l no_tree = no_tree
after_deeper l (tree r kids rest) = let t = after_deeper l rest in if ltb l r.level then t else tree r kids rest

-- a record in front of a forest takes the leading trees that are deeper than itself as its kids
unfoldable pub grow : Rec → Forest → Forest
grow r f = tree r (deeper r.level f) (after_deeper r.level f)

-- the trees of k records from record i on
unfoldable pub forest_at : List ℕ → ℕ → ℕ → Forest
forest_at w zero i = no_tree
forest_at w (suc k) i = grow (record_at w i) (forest_at w k (suc i))

-- of n records, the trees from record `from` on that are deeper than a level
abbrev pub under : List ℕ → ℕ → ℕ → ℕ → Forest
under w n from level = deeper level (forest_at w (n - from) from)

-- the trees of a sheet
unfoldable pub forest_of : List ℕ → Forest
forest_of w = forest_at w (records_of w) 0

-- how many records a forest holds
unfoldable pub size : Forest → ℕ
size no_tree = 0
size (tree r kids rest) = suc (size kids + size rest)

-- how many trees stand side by side
unfoldable pub count_trees : Forest → ℕ
count_trees no_tree = 0
count_trees (tree r kids rest) = suc (count_trees rest)

-- how many trees side by side have a record of a kind at their top
unfoldable pub count_kind : ℕ → Forest → ℕ
count_kind k no_tree = 0
count_kind k (tree r kids rest) = if eqb r.kind k then suc (count_kind k rest) else count_kind k rest

-- the records of a forest, in their order
unfoldable pub records_in : Forest → List Rec
records_in no_tree = []
records_in (tree r kids rest) = r ∷ records_in kids ++ records_in rest

-- k records from record i on
unfoldable pub records_from : List ℕ → ℕ → ℕ → List Rec
records_from w zero i = []
records_from w (suc k) i = record_at w i ∷ records_from w k (suc i)

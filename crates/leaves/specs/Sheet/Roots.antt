-- The trees of a sheet that stand side by side, as an iterator gives them.
use Rattle.std.specs.Prelude.{List, [], ◌∷◌, ℕ, ◌+◌, Option, Some, None}
use Rattle.std.specs.Iterator.{YieldsFirstBy}
use Rattle.leaves.specs.Sheet.Forest.{Forest, no_tree, tree, under, size}
use Rattle.leaves.specs.Sheet.Trees.{trees}
use Rattle.leaves.specs.declared.sheet.records.Rec.{Rec}
use Rattle.leaves.specs.declared.sheet.trees.Records.{Records}
use Rattle.leaves.specs.declared.sheet.trees.Tree.{Tree}
use Rattle.leaves.specs.declared.sheet.trees.Roots.{Roots}

-- the trees side by side: of each the record at its top, and the trees under that
unfoldable pub roots : Forest → List (Rec × Forest)
roots no_tree = []
roots (tree r kids rest) = (r, kids) ∷ roots rest

-- the record at the top of a tree that was given, and the trees under it
abbrev pub tree_seen : Tree → Rec × Forest
tree_seen t = (t.root, trees t.kids t.root.level)

-- the trees deeper than a level from record j on
abbrev pub trees_at : Records → ℕ → ℕ → Forest
trees_at r j level = under r.sheet.now r.n j level

-- the trees deeper than a level from the next record on; or, where a tree of the level k was given last, those behind
-- it
abbrev pub trees_behind : Records → Option ℕ → ℕ → Forest
trees_behind r None level = trees r level
trees_behind r (Some k) level = trees_at r (r.next + size (trees r k)) level

-- the trees that are left
abbrev pub roots_left : Roots → List (Rec × Forest)
roots_left s = roots (trees_behind s.records s.given s.level)

-- one call of `next` gives the first of them, and leaves the others
abbrev pub Passes : Roots → Option Tree → Roots → Type 0
Passes = YieldsFirstBy tree_seen roots_left

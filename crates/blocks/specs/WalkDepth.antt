-- The depth that validate.rs hands down from block to block, and the level that `validate_frontmatter` tests in its
-- place. `validate_document` does not cite these: they are here to prove that both tests of rule 28 agree.
use Rattle.std.specs.Prelude.{ℕ, suc, ◌≡◌, true, eqb, ltb, if◌then◌else◌}
use Rattle.leaves.specs.Sheet.Kinds.{is_block, list}
use Rattle.leaves.specs.Sheet.Forest.{Forest, no_tree, tree}
use Rattle.leaves.specs.declared.sheet.records.Rec.{Rec}

-- The depth of what stands under a record: `validate_blocks(.., depth + 1, ..)` for the blocks of a quote, an alert, a
-- footnote definition, a directive, an HTML container and an item. `validate_list` gives its items the list's own
-- depth. No block stands under any other record.
unfoldable pub depth_under : ℕ → Rec → ℕ
depth_under depth r = if eqb r.kind list then depth else suc depth

-- each block of the trees has a level above 1 exactly where its depth is above 0
unfoldable pub Counted : ℕ → Forest → Type 0
Counted depth no_tree = Unit {0}
Counted depth (tree r kids rest) =
    (is_block r.kind ≡ true → ltb 1 r.level ≡ ltb 0 depth)
    × Counted (depth_under depth r) kids
    × Counted depth rest

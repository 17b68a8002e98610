-- The entries that validate.rs reports for frontmatter, in its order. `path` is the block's own.
use Rattle.std.specs.Prelude.{ℕ, List, eqb, ltb, if◌then◌else◌}
use Rattle.leaves.specs.Text.Fence.{holds_fence_line}
use Rattle.leaves.specs.declared.text.fence.FrontmatterKind.{FrontmatterKind}
use Rattle.leaves.specs.declared.text.fence.FrontmatterKind.TheVariants.{Yaml, Toml}
use Rattle.leaves.specs.Sheet.Texts.{text_of}
use Rattle.leaves.specs.Report.Entries.{Entry, list_if, ◌⊕◌}
use Rattle.leaves.specs.declared.sheet.records.Span.{Span}
use Rattle.leaves.specs.declared.sheet.records.Text.{Text}
use Rattle.leaves.specs.Report.Rules

-- document 01: "frontmatter 0 YAML, 1 TOML"
unfoldable pub frontmatter_kind : ℕ → FrontmatterKind
frontmatter_kind a = if eqb a 1 then Toml else Yaml

-- `validate_frontmatter`: 28, 29. For 28 validate.rs tests that the depth, the number of containers around the block,
-- is above 0. On an accepted sheet that is a level above 1 (`depth-counted` in `proofs/WalkDepthLaws.antt`).
unfoldable pub validate_frontmatter : List ℕ → List ℕ → Span → ℕ → ℕ → Text → List Entry
validate_frontmatter bytes path span level a value =
    list_if (ltb 1 level) Rules.frontmatter_inside span path
    ⊕ list_if (holds_fence_line (frontmatter_kind a) (text_of bytes value)) Rules.fence_in_frontmatter span path

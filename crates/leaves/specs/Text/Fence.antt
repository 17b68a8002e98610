-- Rule 29: frontmatter that holds its own fence line.
use Rattle.std.specs.Prelude.{ℕ, Bool, List, [], ◌∷◌}
use Rattle.leaves.specs.Text.Bytes.{hyphen, plus}
use Rattle.std.specs.List.{list_any}
use Rattle.leaves.specs.Text.Lines.{lines}
use Rattle.leaves.specs.Text.Same.{same_bytes}
use Rattle.leaves.specs.Text.Trim.{trim_end}
use Rattle.leaves.specs.declared.text.fence.FrontmatterKind.{FrontmatterKind}
use Rattle.leaves.specs.declared.text.fence.FrontmatterKind.TheVariants.{Yaml, Toml}

-- the byte that a fence is made of
abbrev pub fence_byte : FrontmatterKind → ℕ
fence_byte Yaml = hyphen
fence_byte Toml = plus

-- Document 01: "Fences are `---` (YAML) and `+++` (TOML) after trimming trailing spaces and tabs."
unfoldable pub is_fence : ℕ → List ℕ → Bool
is_fence c line = same_bytes (trim_end line) (c ∷ c ∷ c ∷ [])

-- `validate_frontmatter` of validate.rs: some line of the value is the fence of its kind
unfoldable pub holds_fence_line : FrontmatterKind → List ℕ → Bool
holds_fence_line kind s = list_any (is_fence (fence_byte kind)) (lines s)

-- Texts of no bytes.
use Rattle.std.specs.Prelude.{Bool, ◌&&◌, eqb}
use Rattle.leaves.specs.Sheet.Kinds.{text}
use Rattle.leaves.specs.declared.sheet.records.Rec.{Rec}
use Rattle.leaves.specs.declared.sheet.records.Text.{Text}

-- `is_empty()` of a Rust string: no byte
abbrev pub is_empty : Text → Bool
is_empty t = eqb t.len 0

-- `is_empty_text` of validate.rs
abbrev pub is_empty_text : Rec → Bool
is_empty_text r = eqb r.kind text && is_empty r.first

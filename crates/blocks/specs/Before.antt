-- What a block reports because of the block before it, and which block stands before the next one. A definition has
-- the name of its function in validate.rs. `path` is the block's own.
use Rattle.std.specs.Prelude.{ℕ, Bool, ◌&&◌, ◌||◌, List, eqb, if◌then◌else◌}
use Rattle.leaves.specs.Sheet.Kinds.{no_kind, list, code_block, footnote_definition, blank_line}
use Rattle.leaves.specs.Report.Entries.{Entry, list_if, ◌⊕◌}
use Rattle.leaves.specs.declared.sheet.records.Span.{Span}
use Rattle.leaves.specs.Text.Marker.{written_marker}
use Rattle.leaves.specs.Report.Rules
use Rattle.blocks.specs.declared.before.Before.{Before}

-- `takes_indented_code`
unfoldable pub takes_indented_code : ℕ → ℕ → Bool
takes_indented_code kind a = eqb kind code_block && eqb a 1 || eqb kind footnote_definition

-- The first part of `validate_blocks`, and `validate_taken_block`: 1, 15.
-- `before` is the last block before this one that is not a blank line; its kind is `no_kind` where there is none.
unfoldable pub validate_taken_block : List ℕ → Span → Before → ℕ → ℕ → ℕ → List Entry
validate_taken_block path span before kind a b =
    let same = eqb (written_marker before.a before.b) (written_marker a b) in
    let taken = takes_indented_code before.kind before.a in
    list_if (eqb before.kind list && eqb kind list && same) Rules.adjacent_lists span path
    ⊕ list_if (eqb kind code_block && eqb a 1 && taken) Rules.indented_code_taken span path

-- what the first block has before it: no block
abbrev pub no_block : Before
no_block = record { kind = no_kind; a = 0; b = 0 }

-- The block before the next one. validate.rs: "Blank lines beyond the separator change how no block reads, so the
-- block before each one is the last one before them."
unfoldable pub before_next : Before → ℕ → ℕ → ℕ → Before
before_next before kind a b = if eqb kind blank_line then before else record { kind = kind; a = a; b = b }

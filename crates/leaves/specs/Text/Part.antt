-- The part of a text that a record names.
-- Document 01, 'What form to use where': "Given text, start and length it returns that part of the caller's slice to
-- the byte rules."
-- A part that does not lie inside the text (refusal 8: "start plus length past the text") is empty.
use Rattle.std.specs.Prelude.{ℕ, ◌+◌, List, [], leb, length, take, drop, if◌then◌else◌}

unfoldable pub part_of : List ℕ → ℕ → ℕ → List ℕ
part_of text start len = if leb (start + len) (length text) then take len (drop start text) else []

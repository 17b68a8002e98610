-- The texts that a record names.
use Rattle.std.specs.Prelude.{ℕ, ◌+◌, Bool, not, List, ltb, length}
use Rattle.leaves.specs.Text.Part.{part_of}
use Rattle.leaves.specs.Text.Utf8.{is_utf8}
use Rattle.leaves.specs.declared.sheet.records.Text.{Text}

-- the part of the sheet's text that a record names
unfoldable pub text_of : List ℕ → Text → List ℕ
text_of bytes t = part_of bytes t.start t.len

-- 8: "start plus length past the text"
unfoldable pub text_outside : List ℕ → Text → Bool
text_outside bytes t = ltb (length bytes) (t.start + t.len)

-- 9: "a named text part alone" that is not UTF-8
unfoldable pub text_ill_formed : List ℕ → Text → Bool
text_ill_formed bytes t = not (is_utf8 (text_of bytes t))

-- Stored texts, each with the fourteen answers of the functions that take a text.
use Rattle.std.specs.Prelude.{ℕ, suc, ◌/◌, ◌%◌, ◌^◌, Bool, List, [], ◌∷◌, eqb, if◌then◌else◌}
use Rattle.std.specs.Bool.{beq}
use Rattle.leaves.specs.Text.Fence.{holds_fence_line}
use Rattle.leaves.specs.Text.Lines.{holds_line_ending}
use Rattle.leaves.specs.Text.Edges.{has_blank_edge_line}
use Rattle.leaves.specs.Text.Math.{holds_backtick_dollar}
use Rattle.leaves.specs.Text.Name.{is_directive_name, is_attribute_name, is_blank_identifier}
use Rattle.leaves.specs.Text.Part.{part_of}
use Rattle.leaves.specs.Text.Pipe.{has_odd_escaped_pipe}
use Rattle.leaves.specs.Text.Title.{is_alert_title}
use Rattle.leaves.specs.Text.UnicodeLetters.{is_tag_name}
use Rattle.leaves.specs.Text.Utf8.{is_utf8}
use Rattle.leaves.specs.Text.White.{starts_with_white, ends_with_white}
use Rattle.leaves.specs.declared.text.fence.FrontmatterKind.TheVariants.{Yaml, Toml}
use Rattle.replay.specs.declared.tally.Tally.{Tally}
use Rattle.replay.specs.Bytes.{byte_at, number_at}
use Rattle.replay.specs.Tally.{recorded, comparing}

-- bit k is set
unfoldable pub is_bit_set : ℕ → ℕ → Bool
is_bit_set bits k = eqb (bits / 2 ^ k % 2) 1

-- an answer is compared with bit k of `bits` where that bit is set in `mask`
unfoldable pub compared_with_bit : ℕ → ℕ → ℕ → Bool → Tally → Tally
compared_with_bit mask bits k answer t = if is_bit_set mask k then comparing (beq answer (is_bit_set bits k)) t else t

-- each answer is compared with its bit; the first answer's bit is bit k
unfoldable pub compared_bits : List Bool → ℕ → ℕ → ℕ → Tally → Tally
compared_bits [] k mask bits t = t
compared_bits (answer ∷ answers) k mask bits t =
    compared_bits answers (suc k) mask bits (compared_with_bit mask bits k answer t)

-- the answers for a text, that of bit 0 first
unfoldable pub answers_for : List ℕ → List Bool
answers_for s =
    is_utf8 s
    ∷ starts_with_white s
    ∷ ends_with_white s
    ∷ holds_line_ending s
    ∷ has_blank_edge_line s
    ∷ holds_fence_line Yaml s
    ∷ holds_fence_line Toml s
    ∷ is_alert_title s
    ∷ has_odd_escaped_pipe s
    ∷ is_directive_name s
    ∷ is_attribute_name s
    ∷ is_blank_identifier s
    ∷ holds_backtick_dollar s
    ∷ is_tag_name s
    ∷ []

-- the text of a record, whose length is its first byte
abbrev pub tested_text : List ℕ → List ℕ
tested_text r = part_of r 5 (byte_at r 0)

-- the mask and the answers of a record
abbrev pub mask_of : List ℕ → ℕ
mask_of r = number_at r 1 % 0x10000

abbrev pub answers_of : List ℕ → ℕ
answers_of r = number_at r 1 / 0x10000

-- the tally after a record
unfoldable pub text_replayed : List ℕ → Tally → Tally
text_replayed r t = compared_bits (answers_for (tested_text r)) 0 (mask_of r) (answers_of r) (recorded t)

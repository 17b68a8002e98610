-- Stored pairs of texts, scalar values, and parts of a text, each with its answer.
use Rattle.std.specs.Prelude.{ℕ, ◌+◌, List, [], ◌∷◌, eqb}
use Rattle.std.specs.Bool.{beq}
use Rattle.leaves.specs.Text.Part.{part_of}
use Rattle.leaves.specs.Text.Punctuation.{is_ascii_punctuation}
use Rattle.leaves.specs.Text.Same.{same_bytes}
use Rattle.replay.specs.declared.tally.Tally.{Tally}
use Rattle.replay.specs.Bytes.{byte_at, number_at, long_at}
use Rattle.replay.specs.Tally.{recorded, comparing}

-- whether the two texts of a pair are the same is compared with what is stored
unfoldable pub pair_replayed : List ℕ → Tally → Tally
pair_replayed r t =
    comparing
    (beq (same_bytes (part_of r 3 (byte_at r 0)) (part_of r (3 + byte_at r 0) (byte_at r 1))) (eqb (byte_at r 2) 1))
    (recorded t)

-- whether a scalar value is ASCII punctuation is compared with what is stored
unfoldable pub punctuation_replayed : List ℕ → Tally → Tally
punctuation_replayed r t = comparing (beq (is_ascii_punctuation (number_at r 0)) (eqb (byte_at r 4) 1)) (recorded t)

-- the text that parts are taken of
abbrev pub sixteen : List ℕ
sixteen = 0 ∷ 1 ∷ 2 ∷ 3 ∷ 4 ∷ 5 ∷ 6 ∷ 7 ∷ 8 ∷ 9 ∷ 10 ∷ 11 ∷ 12 ∷ 13 ∷ 14 ∷ 15 ∷ []

-- a part of that text is compared with the bytes that are stored for it
unfoldable pub part_replayed : List ℕ → Tally → Tally
part_replayed r t =
    comparing (same_bytes (part_of sixteen (long_at r 0) (long_at r 8)) (part_of r 17 (byte_at r 16))) (recorded t)

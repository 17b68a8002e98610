-- Stored films, each with what is printed for it.
use Rattle.std.specs.Prelude.{ℕ, ◌+◌, Bool, List, ◌++◌, eqb, length, drop, get_or, replicate}
use Rattle.leaves.specs.Text.Part.{part_of}
use Rattle.setter.specs.Listing.Print.{output_bytes}
use Rattle.setter.specs.Listing.Program.{listing}
use Rattle.replay.specs.declared.tally.Tally.{Tally}
use Rattle.replay.specs.Bytes.{number_at}
use Rattle.replay.specs.Tally.{recorded, comparing}
use Rattle.replay.specs.Words.{agrees_from}

-- how many bytes stand before the film
abbrev pub film_head : ℕ
film_head = 8

-- every byte of the output before a film is listed
abbrev pub before_byte : ℕ
before_byte = 0xA5

-- the output before a film is listed: as long as the longest that can be printed
unfoldable pub untouched_bytes : List ℕ
untouched_bytes = replicate output_bytes before_byte

-- every byte is the one wanted at its place, and as before behind the wanted bytes
unfoldable pub same_printed : List ℕ → List ℕ → Bool
same_printed bytes wanted = agrees_from (λ k. get_or wanted k before_byte) 0 bytes

-- the film of a record, and what is wanted for it
unfoldable pub film_in : List ℕ → List ℕ
film_in r = part_of r film_head (number_at r 0)

unfoldable pub wanted_in : List ℕ → List ℕ
wanted_in r = part_of r (film_head + number_at r 0) (number_at r 4)

-- the output once bytes are printed over it
unfoldable pub printed_over : List ℕ → List ℕ → List ℕ
printed_over bytes output = bytes ++ drop (length bytes) output

-- how many bytes are printed is compared, and every byte of the output
unfoldable pub film_replayed : List ℕ → Tally → Tally
film_replayed r t =
    comparing (same_printed (printed_over (listing (film_in r)) untouched_bytes) (wanted_in r))
    (comparing (eqb (length (listing (film_in r))) (number_at r 4)) (recorded t))

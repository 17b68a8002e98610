-- A field of the program's lines, as it is written and as it is read.
-- Document 01: "Fields are decimal, at most 4,294,967,295, right-justified in 11 places, no leading zeros".
-- Writing and reading agree (proofs/text/FieldReadLaws.antt): a written number is read back (`written_read`), bytes
-- that are read as a number are that number written (`read-written`), and no number is written as malformed bytes
-- (`malformed-unwritten`).
use Rattle.std.specs.Prelude.{ℕ, zero, suc, ◌+◌, ◌-◌, ◌*◌, ◌/◌, ◌%◌, ◌&&◌, ◌||◌, List}
use Rattle.std.specs.Prelude.{if◌then◌else◌}
use Rattle.std.specs.Prelude.{[], ◌∷◌, ◌++◌, eqb, ltb, leb, length, get_or, Option, Some, None}
use Rattle.leaves.specs.Text.Bytes.{space, is_digit}

-- "in 11 places"
abbrev pub places : ℕ
places = 11

-- "at most 4,294,967,295"
abbrev pub most_number : ℕ
most_number = 4294967295

-- the byte `0`, and the byte of each digit
abbrev pub digit_zero : ℕ
digit_zero = 48

abbrev pub digit : ℕ → ℕ
digit d = digit_zero + d

-- ---- a field as it is written

-- the byte of a number's last digit; a space where nothing is left of the number
abbrev pub last_place : ℕ → ℕ
last_place n = if eqb n 0 then space else digit (n % 10)

-- k places with what is left of a number, its last digit in the last of them
unfoldable pub front : ℕ → ℕ → List ℕ
front zero n = []
front (suc k) n = front k (n / 10) ++ last_place n ∷ []

-- the last place always has a digit, so 0 is `0`
unfoldable pub field : ℕ → List ℕ
field n = front 10 (n / 10) ++ digit (n % 10) ∷ []

-- ---- a field as it is read

-- the bytes without their leading spaces
unfoldable pub past_spaces : List ℕ → List ℕ
past_spaces [] = []
past_spaces (b ∷ s) = if eqb b space then past_spaces s else b ∷ s

-- the number that has the digits of n and then these; none where they are malformed: "decimal, at most
-- 4,294,967,295"
unfoldable pub read_digits : ℕ → List ℕ → Option ℕ
read_digits n [] = Some n
read_digits n (b ∷ s) =
    let more = n * 10 + (b - digit_zero) in
    if is_digit b && leb more most_number then read_digits more s else None

-- at least one digit, and no 0 in front of other digits: "no leading zeros"
unfoldable pub read_number : List ℕ → Option ℕ
read_number s =
    if eqb (length s) 0 || (eqb (get_or s 0 0) digit_zero && ltb 1 (length s))
    then None
    else read_digits 0 s

-- "right-justified in 11 places": spaces, and then the number up to the last place
unfoldable pub read_field : List ℕ → Option ℕ
read_field s = if eqb (length s) places then read_number (past_spaces s) else None

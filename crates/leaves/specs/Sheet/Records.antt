-- The records of a sheet. Document 01: "Record: kind, level, span flag, start, end, A, B, C, first text start and
-- length, second text start and length."
use Rattle.std.specs.Prelude.{ℕ, ◌+◌, ◌*◌, ◌/◌, List, length, get_or}
use Rattle.leaves.specs.declared.sheet.records.Rec.{Rec}
use Rattle.leaves.specs.declared.sheet.records.Span.{Span}
use Rattle.leaves.specs.declared.sheet.records.Text.{Text}

-- how many words a record has (refusal 1: "words not a multiple of 12")
abbrev pub record_words : ℕ
record_words = 12

-- how many records a sheet has
abbrev pub records_of : List ℕ → ℕ
records_of w = length w / record_words

-- word k of record i
abbrev pub word_at : List ℕ → ℕ → ℕ → ℕ
word_at w i k = get_or w (i * record_words + k) 0

-- the text whose start is word k
abbrev pub text_at : List ℕ → ℕ → ℕ → Text
text_at w i k = record { start = word_at w i k; len = word_at w i (k + 1) }

-- the span of what has none: "Without a span, start and end are 0."
abbrev pub no_span : Span
no_span = record { flag = 0; start = 0; end = 0 }

-- record i, counted from 0
unfoldable pub record_at : List ℕ → ℕ → Rec
record_at w i =
    record {
      kind = word_at w i 0;
      level = word_at w i 1;
      span = record { flag = word_at w i 2; start = word_at w i 3; end = word_at w i 4 };
      a = word_at w i 5;
      b = word_at w i 6;
      c = word_at w i 7;
      first = text_at w i 8;
      second = text_at w i 10;
    }

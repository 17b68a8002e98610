-- The report: its entries, their words, and what listing entries does to the report and to the tally.
-- Document 01: "each diagnostic is written into what remains of the report".
use Rattle.std.specs.Prelude.{Bool, true, false, if◌then◌else◌, List, [], ◌∷◌, ◌++◌, ◌≡◌, ℕ}
use Rattle.std.specs.Prelude.{zero, suc, min, ◌+◌, ◌-◌, ◌^◌, leb, length, get_or, take, drop}
use Rattle.leaves.specs.declared.sheet.records.Span.{Span}
use Rattle.leaves.specs.declared.report.entries.Tally.{Tally}
use Rattle.leaves.specs.Text.Over.{over}

-- ---- entries and their words

-- one diagnostic: its rule, the span that it copies, and its path
pub record Entry : Type 0 where
  pub rule : ℕ
  pub span : Span
  pub path : List ℕ

-- Document 01: "Report entry: rule, span flag, start, end, path length, path." To give entries another word, add it
-- here.
unfoldable pub words : Entry → List ℕ
words e = e.rule ∷ e.span.flag ∷ e.span.start ∷ e.span.end ∷ length e.path ∷ e.path

-- how many words stand before the path
abbrev pub head_words : ℕ
head_words = 5

-- the words of a list of entries, one entry behind the other
unfoldable pub flat : List Entry → List ℕ
flat [] = []
flat (e ∷ es) = words e ++ flat es

-- some entries, and then others
infixr 5 ◌⊕◌
unfoldable pub ◌⊕◌ : List Entry → List Entry → List Entry
es ⊕ fs = es ++ fs

-- the entry where the fault holds, and nothing where it does not
unfoldable pub list_if : Bool → ℕ → Span → List ℕ → List Entry
list_if true rule span path = record { rule = rule; span = span; path = path } ∷ []
list_if false rule span path = []

-- ---- the tally: how many words and entries the list has so far

-- the most that a sum of the tally can be; no report has so many words
abbrev pub cap : ℕ
cap = 2 ^ 62

-- a sum of the tally
abbrev pub capped : ℕ → ℕ → ℕ
capped a b = min cap (a + b)

-- the tally of no entries
abbrev pub empty_tally : Tally
empty_tally = record { words = 0; entries = 0 }

-- the tally with one more entry, of n words
abbrev pub counted : Tally → ℕ → Tally
counted s n = record { words = capped s.words n; entries = capped s.entries 1 }

-- the tally once the entries are listed
unfoldable pub after : Tally → List Entry → Tally
after s [] = s
after s (e ∷ es) = after (counted s (length (words e))) es

-- ---- the report

-- The report once the entries are listed: each is written behind those before it, if the whole entry fits.
-- Document 01: "Otherwise words past the list stay."
unfoldable pub put : List ℕ → Tally → List Entry → List ℕ
put w s [] = w
put w s (e ∷ es) = put (over w s.words (words e)) (counted s (length (words e))) es

-- listing the entries makes t of the tally s, and `new` of the report `old`
pub record WritesEntries (s t : Tally) (old new : List ℕ) (es : List Entry) : Type 0 where
  pub tally : t ≡ after s es
  pub written : new ≡ put old s es

-- the longest beginning of the list that has at most n words: what a report of n words holds of it
unfoldable pub fitting : ℕ → List Entry → List Entry
fitting n [] = []
fitting n (e ∷ es) =
    let later = fitting (n - length (words e)) es in
    if leb (length (words e)) n then e ∷ later else []

-- ---- reading back

-- how long the path of the entry at the front of the words is
abbrev pub path_length : List ℕ → ℕ
path_length w = get_or w 4 0

-- the entry at the front of the words
abbrev pub first_entry : List ℕ → Entry
first_entry w =
    record {
      rule = get_or w 0 0;
      span = record { flag = get_or w 1 0; start = get_or w 2 0; end = get_or w 3 0 };
      path = take (path_length w) (drop head_words w);
    }

-- the words behind it
abbrev pub past_first : List ℕ → List ℕ
past_first w = drop (path_length w) (drop head_words w)

-- n entries read back from the front of the words
unfoldable pub entries_in : ℕ → List ℕ → List Entry
entries_in zero w = []
entries_in (suc n) w = first_entry w ∷ entries_in n (past_first w)

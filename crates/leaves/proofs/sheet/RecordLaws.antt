-- A record from its words.
use mathlib.Core.Path.{◌≡◌}
use mathlib.Core.List.{List}
use Prim.Native.Nat.{ℕ}
use borrow.Author.Rules.{rules}
use Rattle.leaves.specs.Sheet.Records.{word_at, text_at, record_at}
use Rattle.leaves.specs.declared.sheet.records.Rec.{Rec}
use Rattle.leaves.specs.declared.sheet.records.Span.{Span}
use Rattle.leaves.specs.declared.sheet.records.Text.{Text}

pub record-made : (w : List ℕ) (i : ℕ) {k l a b c : ℕ} {s : Span} {t u : Text} → k ≡ word_at w i 0 → l ≡ word_at w i 1 → s ≡ (record_at w i).span → a ≡ word_at w i 5 → b ≡ word_at w i 6 → c ≡ word_at w i 7 → t ≡ text_at w i 8 → u ≡ text_at w i 10 → ◌≡◌ {A = Rec} (record { kind = k; level = l; span = s; a = a; b = b; c = c; first = t; second = u }) (record_at w i)
unfolding record_at
record-made w i ek el es ea eb ec et eu = rw (ek, el, es, ea, eb, ec, et, eu)

pub ruleset record-laws = (record-made, rules)

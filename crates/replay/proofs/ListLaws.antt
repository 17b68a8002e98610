-- The list of a paragraph's inlines, and what is compared of it.
use Rattle.std.specs.Prelude.{Ok, Err, is_ok, is_err}
use mathlib.Core.Path.{◌≡◌, refl, sym, ap, ◌∙◌}
use mathlib.Core.Bool.{Bool, true, false, false≢true}
use mathlib.Core.List.{List, [], ◌∷◌}
use Prim.Native.Nat.{ℕ, ◌≤◌}
use borrow.Author.Tests.{le-ltb}
use Rattle.leaves.specs.Sheet.Records.{records_of}
use Rattle.leaves.specs.Sheet.Forest.{Forest, under}
use Rattle.leaves.specs.Refusal.Judge.{Judges}
use Rattle.leaves.specs.Report.Entries.{empty_tally}
use Rattle.leaves.specs.Refusal.Verdict.{Judged}
use Rattle.leaves.specs.Refusal.Formed.{Sound}
use Rattle.leaves.specs.Sheet.Trees.{trees}
use Rattle.leaves.specs.Report.Listed.{path_of, Enters}
use Rattle.leaves.specs.declared.sheet.trees.Records.{Records}
use Rattle.leaves.specs.declared.report.entries.Report.{Report}
use Rattle.leaves.specs.declared.report.entries.Tally.{Tally as Words}
use Rattle.leaves.specs.Report.Entries.{Entry, WritesEntries}
use Rattle.inlines.specs.Nodes.{validate_inlines}
use Rattle.inlines.specs.Walk.{Walked}
use Rattle.leaves.proofs.refusal.FormedLaws.{accepted}
use Rattle.leaves.proofs.refusal.VerdictLaws.{is-accepted}
use Rattle.replay.specs.Words.{Gives}
use Rattle.replay.specs.Lists.{paragraph_list, listed_of}

lists-as : {s s' t : Words} {x x' y y' : List ℕ} {es fs : List Entry} → s ≡ s' → x ≡ x' → y' ≡ y → es ≡ fs → WritesEntries s t x y es → WritesEntries s' t x' y' fs
lists-as s x y e l = rw (y, ← e, ← s, ← x) l

inlines-are : (w : List ℕ) {bytes text path : List ℕ} {f : Forest} → text ≡ bytes → path ≡ 0 ∷ [] → f ≡ under w (records_of w) 1 1 → validate_inlines text path f ≡ paragraph_list w bytes
inlines-are w t p f = rw (t, p, f)

not-refused : (j : Judged) → is_err j ≡ false → is_ok j ≡ true
not-refused (Ok u) h = refl
not-refused (Err m) h = absurd (false≢true (sym h))

module _ (w bytes report : List ℕ) where
  module _ (j : Judged) (t : Bool) (some : 1 ≤ records_of w) (judged : Judges w bytes j) (told : t ≡ is_err j) where
    pub list-sound : t ≡ false → Sound w bytes
    list-sound e = accepted w bytes (sym judged.enum ∙ is-accepted j (not-refused j (sym told ∙ e)))

    -- the records from record 1 on, k, and the report y, which stands at the first block
    pub listed-some : t ≡ false → {k i : Records} {x y z : Report} {left : List ℕ} → k.sheet.now ≡ w → k.bytes.now ≡ bytes → k.n ≡ records_of w → k.next ≡ 1 → x.words.now ≡ report → x.tally ≡ empty_tally → (x.depth ≡ 0) × (x.level ≡ 0) → Enters x y 0 1 → Walked k i 1 y z (validate_inlines k.bytes.now (path_of y) (trees k 1)) → left ≡ z.words.now → Gives (listed_of w bytes report) z.tally.words left
    unfolding listed_of
    listed-some e {k} {x = x} {y} a b c f v s top n d l =
        let p : path_of y ≡ 0 ∷ [] = n.path ∙ rw top.0 in
        let o : y.words.now ≡ x.words.now = rw n.words in
        let m = lists-as (n.tally ∙ s) (o ∙ v) l (inlines-are w b p (rw (a, c, f))) d.adds.lists in
        rw (le-ltb (records_of w) 1 some, sym (ap is_ok judged.enum) ∙ not-refused j (sym told ∙ e)) (record { first = ap (λ (u : Words). u.words) m.tally; second = m.written })

pub ruleset lists = (list-sound, listed-some)

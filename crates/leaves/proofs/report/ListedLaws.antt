-- Laws of the report as the walks write it: listing some entries and then others is listing both.
use mathlib.Core.Path.{◌≡◌, refl, sym, subst, ◌∙◌}
use mathlib.Core.Bool.{Bool, true, false, not}
use borrow.Author.Tests.{not-true, not-false}
use mathlib.Core.List.{List, [], ◌∷◌, ◌++◌}
use Prim.Native.Nat.{ℕ, ◌+◌, ◌≤◌}
use native.Mathlib.Omega.{arith}
use lib.ListN.{length, take, length-take}
use lib.Seq.{take-take, take_all}
use Rattle.std.proofs.lemmas.List.{take-append-le}
use Rattle.leaves.specs.declared.sheet.records.Span.{Span}
use Rattle.leaves.specs.declared.report.entries.Tally.{Tally}
use Rattle.leaves.specs.declared.report.entries.Report.{Report}
use Rattle.leaves.specs.Text.Over.{over}
use Rattle.leaves.specs.Report.Entries.{Entry, words, head_words, counted, after, put, list_if, WritesEntries, ◌⊕◌}
use Rattle.leaves.specs.Report.Listed.{path_of, Adds, Enters, Leaves}
use Rattle.leaves.proofs.report.EntryLaws.{length-words, lists-none, lists-then}

pub path-length : (x : Report) → length (path_of x) ≡ x.depth
path-length x =
    let r : length x.path ≡ 64 = x.room in
    let s : x.depth ≤ x.level = x.short in
    let l : x.level ≤ 64 = x.shallow in
    rw (length-take x.depth x.path) (omega arith)

-- `Report::list_if`
module _ (x : Report) (rule : ℕ) (span : Span) where
  pub lists-not : (f : Bool) → not f ≡ true → Adds x x (list_if f rule span (path_of x))
  unfolding list_if
  lists-not f e = rw (not-true f e) (record { lists = lists-none; loan = refl; path = refl; depth = refl; level = refl })

  pub lists-one : (f : Bool) {y : List ℕ} {t : Tally} → not f ≡ false → y ≡ over x.words.now x.tally.words (words (record { rule = rule; span = span; path = path_of x })) → t ≡ counted x.tally (head_words + x.depth) → WritesEntries x.tally t x.words.now y (list_if f rule span (path_of x))
  unfolding list_if after put
  lists-one f e w c =
      let n : length (words (record { rule = rule; span = span; path = path_of x })) ≡ head_words + x.depth = rw (length-words (record { rule = rule; span = span; path = path_of x }), path-length x) in
      rw (not-false f e) (record { tally = rw n c; written = w })

-- ---- joining

pub adds-none : {x : Report} → Adds x x []
adds-none = record { lists = lists-none; loan = refl; path = refl; depth = refl; level = refl }

pub adds-then : {x y z : Report} {es fs : List Entry} → Adds x y es → Adds y z fs → Adds x z (es ⊕ fs)
adds-then a b =
    record {
      lists = lists-then a.lists b.lists;
      loan = b.loan ∙ a.loan;
      path = b.path ∙ a.path;
      depth = b.depth ∙ a.depth;
      level = b.level ∙ a.level;
    }

-- the same where what is listed second is said by where the report stands then
pub adds-from : {x y z : Report} {es : List Entry} (fs : List ℕ → ℕ → List Entry) → Adds x y es → Adds y z (fs (path_of y) y.level) → Adds x z (es ⊕ fs (path_of x) x.level)
adds-from {x} {y} {z} fs a b =
    let c : Adds y z (fs (path_of x) y.level) = subst (λ (p : List ℕ). Adds y z (fs p y.level)) a.path b in
    adds-then a (subst (λ (n : ℕ). Adds y z (fs (path_of x) n)) a.level c)

-- ---- what a function lists by no call, by two or by three
pub adds_nothing : {x : Report} {all : List Entry} → all ≡ [] → Adds x x all
adds_nothing e = rw e adds-none

module _ {x y z : Report} {es fs all : List Entry} where
  pub adds_both : Adds x y es → Adds y z fs → all ≡ (es ⊕ fs) → Adds x z all
  adds_both a b e = rw e (adds-then a b)

  pub adds_three : {o : Report} {gs : List Entry} → Adds x y es → Adds y z fs → Adds z o gs → all ≡ (es ⊕ fs ⊕ gs) → Adds x o all
  adds_three a b c e = rw e (adds-then a (adds-then b c))

-- ---- what is listed at a child, between `enter` and `leave`
module _ {x y : Report} {index level : ℕ} (a : Enters x y index level) where
  module _ {z : Report} {es : List Entry} (b : Adds y z es) where
    -- there is a child to leave, and what it was entered from is not deeper
    pub visit-depth : z.depth ≡ x.depth + 1
    visit-depth = b.depth ∙ a.depth

    visit-path : take x.depth z.path ≡ path_of x
    visit-path =
        let n : length (path_of x) ≡ x.depth = path-length x in
        let e : take (x.depth + 1) z.path ≡ path_of x ++ index ∷ [] = rw visit-depth at (b.path ∙ a.path) in
        sym (take-take x.depth (x.depth + 1) z.path (omega arith)) ∙ rw e (take-append-le x.depth (path_of x) (index ∷ []) (omega arith) ∙ take_all x.depth (path_of x) (omega arith))

    pub visit : {o : Report} → Leaves z o x.level → Adds x o es
    visit {o} c =
        let d : o.depth ≡ x.depth = omega (arith, visit-depth, c.depth) in
        let w : o.words ≡ z.words = c.words in
        let v : y.words ≡ x.words = a.words in
        record {
          lists = record { tally = c.tally ∙ rw a.tally at b.lists.tally; written = rw (w, b.lists.written, a.tally, v) };
          loan = rw (w, b.loan, v);
          path = rw (d, c.path) visit-path;
          depth = d;
          level = c.level;
        }

-- Steps against a list of entries: every stop is told of in it, and where none stops, a part of it is clean.
use mathlib.Core.Path.{◌≡◌, refl, sym, ◌∙◌}
use mathlib.Core.Logic.{◌⊎◌, inl, inr}
use mathlib.Core.Bool.{Bool, true, false}
use mathlib.Core.List.{List, [], ◌∷◌, ◌++◌, append_assoc}
use Prim.Native.Nat.{ℕ, suc, ◌+◌}
use native.Mathlib.Omega.{arith}
use Rattle.std.specs.Prelude.{if◌then◌else◌}
use Rattle.leaves.specs.Sheet.Forest.{Forest, no_tree, tree, size}
use Rattle.leaves.specs.declared.sheet.records.Rec.{Rec}
use Rattle.leaves.specs.declared.sheet.records.Span.{Span}
use Rattle.leaves.specs.Report.Entries.{Entry, list_if, ◌⊕◌}
use Rattle.setter.specs.Steps.{Frame, fresh, with_kid, Step, opens, closes}
use Rattle.setter.specs.Machine.{opened_at, block_path}
use Rattle.setter.specs.Stops.{stop_of}
use Rattle.setter.specs.Agrees.{SomeEntry, OfStop, Begins}
use Rattle.setter.specs.Stops.{beside, named}
use Rattle.setter.proofs.agrees.Flat.{walk, filled, pile}

-- an entry of a rule beside stop_of bytes s, at a path that begins with p
pub record Found (es : List Entry) (s : ℕ) (p : List ℕ) : Type 0 where
  pub is : SomeEntry (OfStop s p) es

some_left : (P : Entry → Type 0) (a b : List Entry) → SomeEntry P a → SomeEntry P (a ++ b)
unfolding SomeEntry
some_left P [] b h = absurd h
some_left P (e ∷ a) b (inl h) = inl h
some_left P (e ∷ a) b (inr h) = inr (some_left P a b h)

some_right : (P : Entry → Type 0) (a b : List Entry) → SomeEntry P b → SomeEntry P (a ++ b)
unfolding SomeEntry
some_right P [] b h = h
some_right P (e ∷ a) b h = inr (some_right P a b h)

-- what is told of in a is told of in es
pub record Sub (a es : List Entry) : Type 0 where
  pub tell : (s : ℕ) (p : List ℕ) → Found a s p → Found es s p

pub sub-all : (es : List Entry) → Sub es es
sub-all es = record { tell = λ s p h. h }

module _ {a es : List Entry} (b : List Entry) where
  pub sub-left : Sub (a ⊕ b) es → Sub a es
  unfolding ◌⊕◌
  sub-left h = record { tell = λ s p g. h.tell s p (record { is = some_left (OfStop s p) a b g.is }) }

  pub sub-right : Sub (b ⊕ a) es → Sub a es
  unfolding ◌⊕◌
  sub-right h = record { tell = λ s p g. h.tell s p (record { is = some_right (OfStop s p) b a g.is }) }

pub sub-if : {b : Bool} {s : ℕ} {q : List ℕ} {es : List Entry} (n : ℕ) (sp : Span) (p : List ℕ) → Sub (list_if b n sp p) es → b ≡ true → beside s n ≡ true → Begins q p → Found es s q
unfolding list_if SomeEntry
sub-if {s = s} {q = q} n sp p h c e g = (rw c at h).tell s q (record { is = inl (e, g) })

-- no entry is of a rule beside a stop
unfoldable pub Unnamed : List Entry → Type 0
Unnamed [] = Unit {0}
Unnamed (e ∷ es) = (named e.rule ≡ false) × Unnamed es

pub record Clean (es : List Entry) : Type 0 where
  pub is : Unnamed es

pub clean-none : Clean []
unfolding Unnamed
clean-none = record { is = tt }

unnamed-append : (a b : List Entry) → Unnamed a → Unnamed b → Unnamed (a ++ b)
unfolding Unnamed
unnamed-append [] b h g = g
unnamed-append (e ∷ a) b h g = (h.0, unnamed-append a b h.1 g)

pub clean-append : {a b : List Entry} → Clean a → Clean b → Clean (a ⊕ b)
unfolding ◌⊕◌
clean-append {a} {b} h g = record { is = unnamed-append a b h.is g.is }

pub clean-if : {b : Bool} (n : ℕ) (sp : Span) (p : List ℕ) → b ≡ false → Clean (list_if b n sp p)
unfolding list_if
clean-if n sp p e = rw e clean-none

pub clean-noise : (b : Bool) (n : ℕ) (sp : Span) (p : List ℕ) → named n ≡ false → Clean (list_if b n sp p)
unfolding list_if Unnamed
clean-noise true n sp p e = record { is = (e, tt) }
clean-noise false n sp p e = clean-none

-- every stop of the steps is told of in es; and no step stops
unfoldable pub Heard : List ℕ → List Entry → List Step → Type 0
Heard bytes es [] = Unit {0}
Heard bytes es (s ∷ ss) = ((stop_of bytes s ≡ 0) ⊎ Found es (stop_of bytes s) (block_path (opened_at s))) × Heard bytes es ss

unfoldable pub Quiet : List ℕ → List Step → Type 0
Quiet bytes [] = Unit {0}
Quiet bytes (s ∷ ss) = (stop_of bytes s ≡ 0) × Quiet bytes ss

pub record Fits (bytes : List ℕ) (es : List Entry) (ss : List Step) (C : Type 0) : Type 0 where
  pub heard : Heard bytes es ss
  pub quiet : Quiet bytes ss → C

pub record Fit (bytes : List ℕ) (es : List Entry) (s : Step) (C : Type 0) : Type 0 where
  pub heard : (stop_of bytes s ≡ 0) ⊎ Found es (stop_of bytes s) (block_path (opened_at s))
  pub quiet : stop_of bytes s ≡ 0 → C

heard-append : (bytes : List ℕ) (es : List Entry) (a b : List Step) → Heard bytes es a → Heard bytes es b → Heard bytes es (a ++ b)
unfolding Heard
heard-append bytes es [] b h g = g
heard-append bytes es (s ∷ a) b h g = (h.0, heard-append bytes es a b h.1 g)

quiet-append : (bytes : List ℕ) (a b : List Step) → Quiet bytes (a ++ b) → Quiet bytes a × Quiet bytes b
unfolding Quiet
quiet-append bytes [] b h = (tt, h)
quiet-append bytes (s ∷ a) b h = let g : Quiet bytes a × Quiet bytes b = quiet-append bytes a b h.1 in ((h.0, g.0), g.1)

module _ {bytes : List ℕ} {es : List Entry} where
  pub fits-none : Fits bytes es [] (Unit {0})
  unfolding Heard
  fits-none = record { heard = tt; quiet = λ h. tt }

  pub fits-cons : {s : Step} {ss : List Step} {C D : Type 0} → Fit bytes es s C → Fits bytes es ss D → Fits bytes es (s ∷ ss) (C × D)
  unfolding Heard Quiet
  fits-cons a b = record { heard = (a.heard, b.heard); quiet = λ h. (a.quiet h.0, b.quiet h.1) }

  pub fits-append : {a b : List Step} {C D : Type 0} → Fits bytes es a C → Fits bytes es b D → Fits bytes es (a ++ b) (C × D)
  fits-append {a = a} {b} f g =
      record { heard = heard-append bytes es a b f.heard g.heard; quiet = λ h. (f.quiet (quiet-append bytes a b h).0, g.quiet (quiet-append bytes a b h).1) }

  pub fits-map : {ss : List Step} {C D : Type 0} → (C → D) → Fits bytes es ss C → Fits bytes es ss D
  fits-map k f = record { heard = f.heard; quiet = λ h. k (f.quiet h) }

  pub fit-map : {s : Step} {C D : Type 0} → (C → D) → Fit bytes es s C → Fit bytes es s D
  fit-map k f = record { heard = f.heard; quiet = λ h. k (f.quiet h) }

  -- a step that has no stop, that has one where b holds, and that has two
  pub still : {s : Step} → stop_of bytes s ≡ 0 → Fit bytes es s (Unit {0})
  still e = record { heard = inl e; quiet = λ h. tt }

  pub one-stop : {s : Step} (b : Bool) (n : ℕ) → stop_of bytes s ≡ (if b then suc n else 0) → (b ≡ true → Found es (suc n) (block_path (opened_at s))) → Fit bytes es s (b ≡ false)
  one-stop true n e k = record { heard = inr (rw e (k refl)); quiet = λ h. absurd (let z : suc n ≡ 0 = sym e ∙ h in omega arith) }
  one-stop false n e k = record { heard = inl e; quiet = λ h. refl }

  pub two-stops : {s : Step} (b c : Bool) (n m : ℕ) → stop_of bytes s ≡ (if b then suc n else if c then suc m else 0) → (b ≡ true → Found es (suc n) (block_path (opened_at s))) → (c ≡ true → Found es (suc m) (block_path (opened_at s))) → Fit bytes es s ((b ≡ false) × (c ≡ false))
  two-stops true c n m e k l = record { heard = inr (rw e (k refl)); quiet = λ h. absurd (let z : suc n ≡ 0 = sym e ∙ h in omega arith) }
  two-stops false true n m e k l = record { heard = inr (rw e (l refl)); quiet = λ h. absurd (let z : suc m ≡ 0 = sym e ∙ h in omega arith) }
  two-stops false false n m e k l = record { heard = inl e; quiet = λ h. (refl, refl) }

-- the steps of one tree
abbrev pub alone : Frame → List Frame → ℕ → Rec → Forest → List Step
alone f st i r kids = opens (fresh i r) (f ∷ st) ∷ (walk (fresh i r) (f ∷ st) (suc i) kids ++ (closes (filled (fresh i r) (pile kids [])) (f ∷ st) ∷ []))

module _ {bytes : List ℕ} {es : List Entry} (f : Frame) (st : List Frame) (i : ℕ) (r : Rec) (kids : Forest) where
  pub fits-alone : {A B C : Type 0} → Fit bytes es (opens (fresh i r) (f ∷ st)) A → Fits bytes es (walk (fresh i r) (f ∷ st) (suc i) kids) B → Fit bytes es (closes (filled (fresh i r) (pile kids [])) (f ∷ st)) C → Fits bytes es (alone f st i r kids) (A × B × C)
  fits-alone a b c = fits-map (λ h. (h.0, h.1.0, h.1.1.0)) (fits-cons a (fits-append b (fits-cons c fits-none)))

  pub fits-tree : (rest : Forest) {C D : Type 0} → Fits bytes es (alone f st i r kids) C → Fits bytes es (walk (with_kid r f) st (suc i + size kids) rest) D → Fits bytes es (walk f st i (tree r kids rest)) (C × D)
  unfolding walk
  fits-tree rest a b =
      rw append_assoc at (fits-append a b)

pub fits-leaf : {bytes : List ℕ} {es : List Entry} (f : Frame) (st : List Frame) (i : ℕ) (ts : Forest) → ts ≡ no_tree → Fits bytes es (walk f st i ts) (Unit {0})
unfolding walk
fits-leaf f st i ts e = rw e fits-none

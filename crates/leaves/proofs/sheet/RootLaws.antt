-- The trees side by side, as an iterator gives them: what `next` finds, and what chains over them answer by the
-- recursion over the trees.
use mathlib.Core.Path.{◌≡◌, refl, sym, ap, ◌∙◌}
use mathlib.Core.Bool.{Bool, true, false, true≢false, not, ◌&&◌}
use mathlib.Core.List.{List, [], ◌∷◌}
use Prim.Native.Nat.{ℕ, suc, ◌+◌, ◌^◌, ◌<◌, ◌≤◌}
use native.Mathlib.Omega.{arith}
use lib.Dec.{eqb}
use lib.ListN.{length}
use denote.Param.Members.{Mut}
use denote.Ref.{Bor}
use Rattle.std.proofs.Common.{Option, Some, None}
use Rattle.std.specs.declared.iter.Filter.{Filter}
use Rattle.std.proofs.lemmas.Iterator.{YieldsList}
use Rattle.std.proofs.lemmas.Iterator.Consumers.{YieldsList-from_first, YieldsList-from_filter, YieldsList-at, count_from_yields_List, fold_from_yields_List}
use Rattle.std.proofs.lemmas.Iterator.Search.{all_from_yields_List, find_from_yields_List}
use Rattle.std.specs.Bool.{⊤}
use Rattle.std.specs.Fn.{Called, CalledAt}
use Rattle.std.specs.Iterator.{Drains, YieldsThen}
use Rattle.std.specs.Iterator.Adapters.{filter_source, filter_callee, filter_steps}
use Rattle.std.specs.List.{FoldsTo, filter, find, fold, list_all}
use Rattle.std.specs.Option.{MatchOption, is_some, option_map}
use Rattle.std.specs.Prelude.{if◌then◌else◌}
use Rattle.leaves.specs.Refusal.Limits.{most_records}
use Rattle.leaves.specs.Sheet.Records.{record_at}
use Rattle.leaves.specs.Sheet.Forest.{Forest, no_tree, tree, under, size, count_trees}
use Rattle.leaves.specs.Sheet.Trees.{trees, Moved, ReadsNext, Ends}
use Rattle.leaves.specs.Sheet.Roots.{Passes, tree_seen, roots, roots_left, trees_at, trees_behind}
use Rattle.leaves.specs.declared.sheet.records.Rec.{Rec}
use Rattle.leaves.specs.declared.sheet.trees.Records.{Records}
use Rattle.leaves.specs.declared.sheet.trees.Roots.{Roots}
use Rattle.leaves.specs.declared.sheet.trees.Tree.{Tree}
use Rattle.leaves.proofs.sheet.ForestLaws.{behind_kids, under-fits}
use Rattle.leaves.proofs.sheet.TreeLaws.{suc-some}
use Rattle.leaves.proofs.sheet.TreesLaws.{reads-first, reads-kids, trees-moved}

-- ---- `next` first passes over the tree that was given last: t is s behind that tree
pub record Behind (s t : Roots) : Type 0 where
  pub left : roots_left s ≡ roots (trees t.records t.level)
  pub none_given : t.given ≡ None

module _ {s t : Roots} {o : Option ℕ} (q : o ≡ s.given) where
  pub behind-given : {k : ℕ} {z : Records} → o ≡ Some k → Moved s.records z (s.records.next + size (trees s.records k)) → t ≡ record { records = z; level = s.level; given = None } → Behind s t
  behind-given e m i =
      let h : s.given ≡ Some _ = sym q ∙ e in
      record { left = rw (h, i, trees-moved s.level m) refl; none_given = rw i refl }

  pub behind-none : o ≡ None → t ≡ record { records = s.records; level = s.level; given = None } → Behind s t
  behind-none e i =
      let h : s.given ≡ None = sym q ∙ e in
      record { left = rw (h, i) refl; none_given = rw i refl }

-- none is left before and after, or the first is the one that is read
pub roots-none : {x y : Records} {level : ℕ} → Ends x y level → roots (trees x level) ≡ []
unfolding roots
roots-none e = rw e.empty refl

pub roots-behind : {x y : Records} {level : ℕ} {o : Option ℕ} → Ends x y level → o ≡ None → roots (trees_behind y o level) ≡ []
unfolding roots
roots-behind {level = level} e n = let t = trees-moved level e.moved in rw (n, t, e.empty) refl

pub passes-none : {xs ys : List (Rec × Forest)} {o : Option Tree} → o ≡ None → xs ≡ [] → ys ≡ [] → MatchOption o ((xs ≡ []) × (ys ≡ [])) (λ t. xs ≡ tree_seen t ∷ ys)
passes-none e a b = rw e (a, b)

pub roots-first : {x y : Records} {level : ℕ} {r : Rec} → ReadsNext x y level r → roots (trees x level) ≡ (r, trees y r.level) ∷ roots (trees_at y (y.next + size (trees y r.level)) level)
unfolding roots
roots-first {x} {y} {level} {r} reads =
    let k : trees y r.level ≡ under x.sheet.now x.n (x.next + 1) (record_at x.sheet.now x.next).level = reads-kids reads in
    let m = reads.moved in
    let t : trees_at y (y.next + size (trees y r.level)) level ≡ under x.sheet.now x.n (behind_kids x.sheet.now x.n x.next) level = rw (k, m.sheet, m.n, m.next) refl in
    rw t (ap roots (reads-first reads))

pub fewer : {A : Type 0} {x : A} {xs ys : List A} → xs ≡ x ∷ ys → length ys < length xs
fewer e = rw e (omega arith)

-- ---- what chains answer. `step` says what the recursion over the trees, h, makes of one tree.
road : {s : Roots} (whole : Forest) → roots_left s ≡ roots whole → YieldsList Passes tree_seen s (roots whole)
road whole is = YieldsList-from_first tree_seen roots_left (roots whole) is

module _ (test : Rec → Forest → Bool) where
  list-all : (h : Forest → Bool) → h no_tree ≡ true → ((r : Rec) (kids rest : Forest) → h (tree r kids rest) ≡ (test r kids && h rest)) → (f : Forest) → list_all (λ t. test t.0 t.1) (roots f) ≡ h f
  unfolding roots
  list-all h start step no_tree = sym start
  list-all h start step (tree r kids rest) = ap (λ b. test r kids && b) (list-all h start step rest) ∙ sym (step r kids rest)

  list-count : (h : Forest → ℕ) → h no_tree ≡ 0 → ((r : Rec) (kids rest : Forest) → h (tree r kids rest) ≡ (if test r kids then suc (h rest) else h rest)) → (f : Forest) → length (filter (λ t. test t.0 t.1) (roots f)) ≡ h f
  unfolding roots
  list-count h start step no_tree = sym start
  list-count h start step (tree r kids rest) = go (test r kids) refl (list-count h start step rest) ∙ sym (step r kids rest)
    where
      go : (b : Bool) → test r kids ≡ b → length (filter (λ t. test t.0 t.1) (roots rest)) ≡ h rest → length (filter (λ t. test t.0 t.1) ((r, kids) ∷ roots rest)) ≡ (if b then suc (h rest) else h rest)
      go true e more = rw e (ap suc more)
      go false e more = rw e more

-- what `ask` says of the first tree that passes the test, and false where none does
abbrev asks : (Rec → Forest → Bool) → Option (Rec × Forest) → Bool
asks ask None = false
asks ask (Some t) = ask t.0 t.1

list-find : (test ask : Rec → Forest → Bool) (h : Forest → Bool) → h no_tree ≡ false → ((r : Rec) (kids rest : Forest) → h (tree r kids rest) ≡ (if test r kids then ask r kids else h rest)) → (f : Forest) → asks ask (find (λ t. test t.0 t.1) (roots f)) ≡ h f
unfolding roots
list-find test ask h start step no_tree = sym start
list-find test ask h start step (tree r kids rest) = go (test r kids) refl (list-find test ask h start step rest) ∙ sym (step r kids rest)
  where
    go : (b : Bool) → test r kids ≡ b → asks ask (find (λ t. test t.0 t.1) (roots rest)) ≡ h rest → asks ask (find (λ t. test t.0 t.1) ((r, kids) ∷ roots rest)) ≡ (if b then ask r kids else h rest)
    go true e more = rw e refl
    go false e more = rw e more

found-asks : (ask : Rec → Forest → Bool) {P : Tree → Type 0} (b : Bool) (o : Option Tree) → MatchOption o (b ≡ false) P → ((t : Tree) → P t → b ≡ ask t.root (trees t.kids t.root.level)) → b ≡ asks ask (option_map tree_seen o)
found-asks ask b None e k = e
found-asks ask b (Some t) e k = k t e

list-fold : {C : Type 0} (add : C → Rec → Forest → C) (h : C → Forest → C) → ((c : C) → h c no_tree ≡ c) → ((c : C) (r : Rec) (kids rest : Forest) → h c (tree r kids rest) ≡ h (add c r kids) rest) → (c : C) (f : Forest) → fold (λ c t. add c t.0 t.1) c (roots f) ≡ h c f
unfolding roots
list-fold add h start step c no_tree = sym (start c)
list-fold add h start step c (tree r kids rest) = list-fold add h start step (add c r kids) rest ∙ sym (step c r kids rest)

module _ {F : Type 0} {s : Roots} {f : F} (test : Rec → Forest → Bool) {whole : Forest} where
  -- `all`
  pub all-of : {g : Mut F (Tree × Unit {0}) Bool} (h : Forest → Bool) (u : Roots) (r : Bool) → (xs : List Tree) × (o : Option Tree) × (j : F) × YieldsThen Passes s xs o u × FoldsTo (λ p x q. Called g p (x, tt) true q) f xs j × MatchOption o (r ≡ true) (λ x. (r ≡ false) × ((q : F) × Called g j (x, tt) false q)) → roots_left s ≡ roots whole → ((x : Tree) (b : Bool) (q : F) → Called g f (x, tt) b q → (q ≡ f) × (b ≡ test x.root (trees x.kids x.root.level))) → h no_tree ≡ true → ((r : Rec) (kids rest : Forest) → h (tree r kids rest) ≡ (test r kids && h rest)) → r ≡ h whole
  all-of h u r ran is calls start step = all_from_yields_List (λ t. test t.0 t.1) u _ r ran (road whole is) calls ∙ list-all test h start step whole

  -- `find` and `is_some_and`
  pub find-of : {g : Mut F (Bor Tree × Unit {0}) Bool} {P : Tree → Type 0} (ask : Rec → Forest → Bool) (h : Forest → Bool) (u : Roots) (r : Option Tree) (b : Bool) → (xs : List Tree) × (j : F) × YieldsThen Passes s xs r u × FoldsTo (λ p x q. CalledAt g p x false q) f xs j × MatchOption r ⊤ (λ x. (q : F) × CalledAt g j x true q) → roots_left s ≡ roots whole → ((x : Tree) (b : Bool) (q : F) → CalledAt g f x b q → (q ≡ f) × (b ≡ test x.root (trees x.kids x.root.level))) → MatchOption r (b ≡ false) P → ((t : Tree) → P t → b ≡ ask t.root (trees t.kids t.root.level)) → h no_tree ≡ false → ((r : Rec) (kids rest : Forest) → h (tree r kids rest) ≡ (if test r kids then ask r kids else h rest)) → b ≡ h whole
  find-of ask h u r b ran is calls said asked start step = found-asks ask b r said asked ∙ ap (asks ask) (find_from_yields_List (λ t. test t.0 t.1) u _ r ran (road whole is) calls) ∙ list-find test ask h start step whole

  -- `filter` and `count_trees`
  pub count-of : {g : Mut F (Bor Tree × Unit {0}) Bool} {v : Filter Roots F} {r : ℕ} (h : Forest → ℕ) → (xs : List Tree) × Drains (filter_steps Passes g) v xs × (r ≡ length xs) → filter_source v ≡ s → filter_callee v ≡ f → roots_left s ≡ roots whole → ((x : Tree) (b : Bool) (q : F) → CalledAt g f x b q → (q ≡ f) × (b ≡ test x.root (trees x.kids x.root.level))) → h no_tree ≡ 0 → ((r : Rec) (kids rest : Forest) → h (tree r kids rest) ≡ (if test r kids then suc (h rest) else h rest)) → r ≡ h whole
  count-of {g = g} h ran source callee is calls start step = count_from_yields_List _ _ ran (YieldsList-from_filter g (λ t. test t.0 t.1) (YieldsList-at source (road whole is)) callee calls) ∙ list-count test h start step whole

-- `fold`
pub fold-of : {C F : Type 0} {s : Roots} {g : Mut F (C × (Tree × Unit {0})) C} {f : F} {c r : C} {whole : Forest} (add : C → Rec → Forest → C) (h : C → Forest → C) → (xs : List Tree) × (q : F) × Drains Passes s xs × FoldsTo {P = F × C} (λ a x b. Called g a.0 (a.1, (x, tt)) b.1 b.0) (f, c) xs (q, r) → roots_left s ≡ roots whole → ((a : C) (x : Tree) (b : C) (q : F) → Called g f (a, (x, tt)) b q → (q ≡ f) × (b ≡ add a x.root (trees x.kids x.root.level))) → ((c : C) → h c no_tree ≡ c) → ((c : C) (r : Rec) (kids rest : Forest) → h c (tree r kids rest) ≡ h (add c r kids) rest) → r ≡ h c whole
fold-of {g = g} {c = c} {r = r} {whole = whole} add h ran is calls start step = fold_from_yields_List g (λ c t. add c t.0 t.1) c r ran (road whole is) calls ∙ list-fold add h start step c whole

-- there are as many as trees, so that a count of some of them fits
pub length-roots : (f : Forest) → length (roots f) ≡ count_trees f
unfolding roots count_trees
length-roots no_tree = refl
length-roots (tree r kids rest) = ap suc (length-roots rest)

roots-few : (f : Forest) → length (roots f) ≤ size f
unfolding roots size
roots-few no_tree = omega arith
roots-few (tree r kids rest) = let k = roots-few rest in omega arith

pub count-fits : {F : Type 0} (v : Filter Roots F) {s : Roots} (r : Records) (level : ℕ) → filter_source v ≡ s → roots_left s ≡ roots (trees r level) → 0 + length (roots_left (filter_source v)) < 2 ^ 64
count-fits v r level source is =
    let k = roots-few (trees r level) in
    let m : r.next + size (trees r level) ≤ r.n = under-fits r.sheet.now r.n r.next level r.inside in
    let f : r.n ≤ most_records = r.few in
    rw (source, is) (omega arith)

-- ---- what a second call of `next` says of the trees behind the first
pub is-last : (xs ys : List (Rec × Forest)) (o : Option Tree) (b : Bool) → MatchOption o ((xs ≡ []) × (ys ≡ [])) (λ t. xs ≡ tree_seen t ∷ ys) → is_some o ≡ not b → b ≡ eqb (length xs) 0
is-last xs ys None true m e = rw m.0 refl
is-last xs ys (Some t) false m e = rw m (suc-some (length ys))
is-last xs ys None false m e = absurd (true≢false (sym e))
is-last xs ys (Some t) true m e = absurd (true≢false e)

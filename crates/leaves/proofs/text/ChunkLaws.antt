-- Sixteen bytes at once, as four times four; and a loop that passes over them.
use mathlib.Core.Path.{◌≡◌, refl, sym, ap, ◌∙◌}
use mathlib.Core.Bool.{Bool, true, false, ◌&&◌, and_assoc, false≢true}
use mathlib.Core.List.{List, [], ◌∷◌}
use Prim.Native.Nat.{ℕ, zero, suc, ◌+◌, ◌<◌, ◌≤◌}
use native.Mathlib.Omega.{arith}
use native.Mathlib.Nat.{zero-add, suc-add}
use lib.ListN.{length, drop, get_or, length-drop}
use lib.Seq.{drop-drop}
use Rattle.leaves.proofs.text.ScanLaws.{next}
use Rattle.leaves.specs.Text.Chunk.{passes, chunk, Skipped}

and-four : (t u v w : Bool) → (t && u && v && w) ≡ (t && (u && (v && (w && true))))
and-four true true true true = refl
and-four true true true false = refl
and-four true true false w = refl
and-four true false v w = refl
and-four false u v w = refl

module _ (test : ℕ → Bool) where
  -- the next four bytes
  pub four : (s : List ℕ) (i : ℕ) {p q r t : Bool} → p ≡ test (get_or s i 0) → q ≡ test (get_or s (i + 1) 0) → r ≡ test (get_or s (i + 2) 0) → t ≡ test (get_or s (i + 3) 0) → i + 4 ≤ length s → (p && q && r && t) ≡ passes test 4 (drop i s)
  unfolding passes
  four s i {p} {q} {r} {t} x y z w h =
      let a : i + 1 + 1 ≡ i + 2 = omega arith in
      let b : i + 2 + 1 ≡ i + 3 = omega arith in
      let c : drop (i + 2) s ≡ get_or s (i + 2) 0 ∷ get_or s (i + 3) 0 ∷ drop (i + 3 + 1) s = rw (next s (i + 2) (omega arith), b, next s (i + 3) (omega arith)) in
      let d : drop i s ≡ get_or s i 0 ∷ get_or s (i + 1) 0 ∷ drop (i + 2) s = rw (next s i (omega arith), next s (i + 1) (omega arith), a) in
      rw (d, c, sym x, sym y, sym z, sym w) (and-four p q r t)

  -- n bytes, and then m more
  pub more : (n m : ℕ) (s : List ℕ) → passes test (n + m) s ≡ (passes test n s && passes test m (drop n s))
  unfolding passes
  more zero m s = rw (zero-add m)
  more (suc n) m [] = rw (suc-add n m)
  more (suc n) m (b ∷ s) = rw (suc-add n m) (rw (more n m s) (sym (and_assoc (test b) (passes test n s) (passes test m (drop n s)))))

  -- too few bytes are left
  pub few : (n : ℕ) (s : List ℕ) → length s < n → false ≡ passes test n s
  unfolding passes
  few zero s h = absurd (omega arith)
  few (suc n) [] h = refl
  few (suc n) (b ∷ s) h = rw (sym (few n s (omega arith))) (go (test b))
    where
      go : (t : Bool) → false ≡ (t && false)
      go true = refl
      go false = refl

  -- four times four bytes
  pub sixteen : (s : List ℕ) (i : ℕ) {a b c d : Bool} → a ≡ passes test 4 (drop i s) → b ≡ passes test 4 (drop (i + 4) s) → c ≡ passes test 4 (drop (i + 8) s) → d ≡ passes test 4 (drop (i + 12) s) → (a && b && c && d) ≡ passes test chunk (drop i s)
  sixteen s i {a} {b} {c} {d} p q r t =
      let x : i + 4 + 4 ≡ i + 8 = omega arith in
      let y : i + 8 + 4 ≡ i + 12 = omega arith in
      rw (p, q, r, t, more 12 4 (drop i s), more 8 4 (drop i s), more 4 4 (drop i s), drop-drop 4 i s, drop-drop 8 i s, drop-drop 12 i s)

  -- what is passed over is there, and does not change the answer of a loop
  pub passed : {A : Type 0} (rest : List ℕ → A) → ((b : ℕ) (t : List ℕ) → test b ≡ true → rest (b ∷ t) ≡ rest t) → (n : ℕ) (s : List ℕ) → passes test n s ≡ true → rest s ≡ rest (drop n s)
  unfolding passes
  passed rest e zero s h = refl
  passed rest e (suc n) [] h = absurd (false≢true h)
  passed rest e (suc n) (b ∷ s) h = go (test b) refl h (passed rest e n s)
    where
      go : (t : Bool) → test b ≡ t → (t && passes test n s) ≡ true → (passes test n s ≡ true → rest s ≡ rest (drop n s)) → rest (b ∷ s) ≡ rest (drop n s)
      go true p q k = e b s p ∙ k q
      go false p q k = absurd (false≢true q)

  pub there : (n : ℕ) (s : List ℕ) → passes test n s ≡ true → n ≤ length s
  unfolding passes
  there zero s h = omega arith
  there (suc n) [] h = absurd (false≢true h)
  there (suc n) (b ∷ s) h = go (test b) h (there n s)
    where
      go : (t : Bool) → (t && passes test n s) ≡ true → (passes test n s ≡ true → n ≤ length s) → suc n ≤ length (b ∷ s)
      go true q k = let l : n ≤ length s = k q in omega arith
      go false q k = absurd (false≢true q)

  pub nearer : (s : List ℕ) → passes test chunk s ≡ true → length (drop chunk s) < length s
  nearer s h = rw (length-drop chunk s) (omega (arith, there chunk s h))

  pub reach : (s : List ℕ) → passes test chunk s ≡ true → chunk ≤ length s
  reach s h = there chunk s h

  -- nothing is passed over, and then a chunk more
  pub past_none : (s : List ℕ) → Skipped test s s
  unfolding passes
  past_none s = record { count = 0; is = refl; all = refl }

  pub past_chunk : (s rest : List ℕ) → Skipped test s rest → passes test chunk rest ≡ true → Skipped test s (drop chunk rest)
  past_chunk s rest p h = record { count = p.count + chunk; is = rw p.is (drop-drop chunk p.count s); all = rw (more p.count chunk s, p.all) (rw p.is at h) }

  -- what is passed over does not change an answer
  pub leap : {A : Type 0} (f : List ℕ → A) → ((b : ℕ) (t : List ℕ) → test b ≡ true → f (b ∷ t) ≡ f t) → {s rest : List ℕ} → Skipped test s rest → f s ≡ f rest
  leap f e {s} {rest} p = passed f e p.count s p.all ∙ ap f (sym p.is)

  pub shorter : {s rest : List ℕ} → Skipped test s rest → length rest ≤ length s
  shorter {s} {rest} p = rw (p.is, length-drop) (omega arith)

-- Three numbers that are 0 are in range, whatever the kind.
use mathlib.Core.Path.{◌≡◌, refl}
use mathlib.Core.Bool.{false, and-false}
use Prim.Native.Nat.{ℕ}
use native.Mathlib.Omega.{arith}
use lib.Dec.{eqb, ltb}
use borrow.Author.Tests.{le-ltb}
use Rattle.leaves.specs.Text.Bytes.{between}
use Rattle.leaves.specs.Sheet.Kinds.{escape}
use Rattle.leaves.specs.declared.sheet.records.Rec.{Rec}
use Rattle.leaves.specs.Refusal.Fields.{most_a, most_b, most_c, is_surrogate, bad_number}

pub no_numbers : (r : Rec) → r.a ≡ 0 → r.b ≡ 0 → r.c ≡ 0 → false ≡ bad_number r
unfolding bad_number is_surrogate
no_numbers r a b c =
    let none : (n m : ℕ) → m ≡ 0 → ltb n m ≡ false = λ n m e. le-ltb n m (omega arith) in
    let low : between 0xD800 0xDFFF r.a ≡ false = rw a refl in
    rw (none (most_a r.kind) r.a a, none (most_b r.kind r.a) r.b b, none (most_c r.kind r.b) r.c c, low, and-false (eqb r.kind escape))

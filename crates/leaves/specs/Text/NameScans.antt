-- How the code reads a directive's name, a byte at a time. The proofs equate this with `is_directive_name`, and no
-- public function's promise cites it.
use Rattle.std.specs.Prelude.{ℕ, Bool, not, ◌&&◌, List, [], ◌∷◌, eqb, if◌then◌else◌}
use Rattle.leaves.specs.Text.Bytes.{hyphen}
use Rattle.leaves.specs.Text.Name.{begins_run, continues_run}

-- Whether the byte can stand there. `start`: a run has to start at it; else one has begun.
unfoldable pub may_stand : Bool → ℕ → Bool
may_stand start b =
    if eqb b hyphen then not start else if start then begins_run b else continues_run b

-- Whether these bytes can end a directive's name. `start`: a run has to start here; else one has begun.
unfoldable pub name_from : Bool → List ℕ → Bool
name_from start [] = not start
name_from start (b ∷ s) = may_stand start b && name_from (eqb b hyphen) s

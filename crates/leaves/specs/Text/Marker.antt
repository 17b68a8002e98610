-- The leaf `written_marker`: the byte that the items of a list are written with, from A (ordered) and B (delimiter).
use Rattle.std.specs.Prelude.{ℕ, eqb, if◌then◌else◌}

-- Document 01: "written marker `*` or `+` for such bullets, `-` for other bullets, `)` for ordered paren, `.` for other
-- ordered."
unfoldable pub written_marker : ℕ → ℕ → ℕ
written_marker ordered delimiter =
    if eqb ordered 1
    then (if eqb delimiter 4 then 0x29 else 0x2E)
    else if eqb delimiter 1
    then 0x2A
    else if eqb delimiter 2
    then 0x2B
    else 0x2D

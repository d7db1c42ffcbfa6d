-- The line that `treecheck` writes, in document 01's words ("What the desk terminal meets"). Assumes nothing.
use Rattle.std.specs.Prelude.{ℕ, cond, List, ◌++◌, eqb}
use Rattle.checker.specs.Outcomes.{Outcome}
use Rattle.line.specs.declared.Input.{Input}
use Rattle.line.specs.declared.Input.TheVariants.{Ask, Net, Formula, Tree}
use Rattle.texts.specs.Text.{bytes, decimal}
use Rattle.texts.specs.Line.{placed_line, unread_named}

-- "accepted nodes N"
unfoldable pub accepted_line : (nodes : ℕ) → List ℕ
accepted_line n = bytes "accepted nodes " ++ decimal n ++ bytes "\n"

-- accepted, refused or broken
unfoldable pub line_of : Outcome → List ℕ
unfolding accepted_line placed_line
line_of o =
    cond (eqb o.word 0)
    (accepted_line o.place)
    (placed_line (cond (eqb o.word 1) (bytes "refused ") (bytes "broken ")) o.number o.place)

-- the four files
abbrev pub name_of : Input → List ℕ
name_of Ask = bytes "ASK"
name_of Net = bytes "NET"
name_of Formula = bytes "FORMULA"
name_of Tree = bytes "TREE"

-- "unread NAME"
unfoldable pub unread_line : Input → List ℕ
unfolding unread_named
unread_line file = unread_named (name_of file)

-- Answers from their numbers. Assumes nothing.
use Rattle.std.specs.Prelude.{List, ℕ}
use Rattle.pnml_write.specs.Answer as writing
use Rattle.pnml_read.specs.Answer as reading
use Rattle.pnml_write.specs.declared.Numbers.{Numbers as Written}
use Rattle.pnml_read.specs.declared.Numbers.{Numbers as Read}

-- the writer's numbers and the room after, as its answer
abbrev pub writer : Written → List ℕ → writing.Answer
writer n room = record { number = n.number; place = n.place; length = n.length; room = room }

-- the reader's
abbrev pub reader : Read → List ℕ → reading.Answer
reader n room =
    record { number = n.number; place = n.place; places = n.places; marking = n.marking; length = n.length; room = room }

-- What a room holds before and after a call, and the answer from its numbers. Assumes nothing.
use Rattle.std.specs.Prelude.{ℕ, zero, suc, ◌+◌, ◌%◌, cond, List, [], ◌∷◌, ◌++◌, get_or, eqb}
use Rattle.tables.specs.Faults.{fault}
use Rattle.tree_answer.specs.Answer.{Answer}
use Rattle.tree_write.specs.declared.Numbers.{Numbers}

-- a room of n bytes before a call
unfoldable pub filled : ℕ → List ℕ
filled zero = []
filled (suc n) = filled n ++ (n % 251 ∷ [])

-- how many of the n bytes from an offset on are as they were before the call
unfoldable pub kept : List ℕ → (from n : ℕ) → ℕ
kept room from zero = 0
kept room from (suc n) = cond (eqb (get_or room (from + n) 0) ((from + n) % 251)) (kept room from n + 1) (kept room from n)

-- the writer's numbers and the room after, as its answer
abbrev pub writer : Numbers → List ℕ → Answer
writer n room = record { found = fault n.number n.place; side = n.side; nodes = n.nodes; room = room }

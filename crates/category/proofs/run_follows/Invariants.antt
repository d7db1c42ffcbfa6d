-- `category::run_follows` meets its contract. The loop's invariant: `ok` says whether each byte passed may stand after the one before it.
-- Assumes nothing.
use mathlib.Core.Path.{◌≡◌}
use Prim.Native.Nat.{◌+◌}
use lib.ListN.{get_or}
use Rattle.tables.specs.Below.{every_below}
use Rattle.category.specs.Serving.{follows}
use Rattle.category.proofs.run_follows.Given as goal

abbrev pub invariant-loop-j : goal.invariant-loop-j
invariant-loop-j l = l.ok ≡ every_below (λ k. follows (get_or l.run k 0) (get_or l.run (k + 1) 0)) l.j

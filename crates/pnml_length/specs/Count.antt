-- Serves the code's proof: contracts cite it, no meaning depends on it. Lengths of texts that are counted. Assumes nothing.
use Rattle.std.specs.Prelude.{ℕ, ◌+◌, ◌*◌, ◌≤◌, ◌≡◌, List, length}
use Rattle.pnml_shape.specs.Drawing.{Arc}
use Rattle.pnml_put.specs.Put.{arcs_from}

-- a call that counts a text, at most so many bytes
pub record Count (most : ℕ) (vs : List ℕ) (r : ℕ) : Type 0 where
  pub exact : r ≡ length vs
  pub bound : r ≤ most

-- a call that counts these arcs, at most so many, after others of some length, and answers the length and how many there are then
pub record CountArcs (most before others : ℕ) (l : List Arc) (r count : ℕ) : Type 0 where
  pub exact : r ≡ before + length (arcs_from others l)
  pub bound : r ≤ before + 50 * most
  pub total : count ≡ others + length l
  pub few : count ≤ others + most

-- Serves the code's proof only: contracts cite it, no meaning depends on it.
-- Assumes nothing.
use Rattle.std.specs.Prelude.{ℕ, ◌^◌, ◌<◌, List}
use Rattle.bitset.specs.Sets.{shifted}
use Rattle.net.specs.Table.{pre_at, post_at, transitions}
use Rattle.join.specs.declared.Half.{Half}
use Rattle.join.specs.Joint.{Marked, marked}

-- the sets of the records, shifted by so many places, are numbers of 64 bits
pub record Fits (places : ℕ) (bytes : List ℕ) : Type 0 where
  pub few : places < 64
  pub pre : (t : ℕ) → t < transitions bytes → shifted places (pre_at bytes t) < 2 ^ 64
  pub post : (t : ℕ) → t < transitions bytes → shifted places (post_at bytes t) < 2 ^ 64

-- a half as the code hands it over
abbrev pub marked_by : Half → Marked
marked_by h = marked h.places h.marking h.table.now

-- Serves the code's proof: contracts cite it, no meaning depends on it. The records of transitions whose sets
-- and entries stand in tables. Assumes nothing.
use Rattle.std.specs.Prelude.{ℕ, zero, suc, List, [], ◌++◌, get_or}
use Rattle.pnml_net.specs.Nets.{record_bytes}

-- the records of the first transitions
unfoldable pub records_by : (pre post action : List ℕ) (count : ℕ) → List ℕ
records_by pre post action zero = []
records_by pre post action (suc t) = records_by pre post action t ++ record_bytes (get_or pre t 0) (get_or post t 0) (get_or action t 0)

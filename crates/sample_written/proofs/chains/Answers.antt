-- `sample_written::chains` meets its contract. Assumes nothing.
use Rattle.sample_bytes.specs.Bytes.{bytes}
use Rattle.sample_trees.specs.Tables.{formula}
use Rattle.sample_written.specs.Tables.{ands, chain, chains}
use Rattle.sample_written.proofs.chains.Goals as goal

pub returns : goal.returns
unfolding bytes formula ands chain chains
returns c =
    simp (c.put_formula-5.ensures, c.put_formula-4.ensures, c.put_formula-3.ensures, c.put_formula-2.ensures, c.put_ands.ensures, c.put_formula.ensures)

-- `sample_written::net_of_choices` meets its contract. Assumes nothing.
use Rattle.sample_bytes.specs.Bytes.{bytes}
use Rattle.sample_nets.specs.Tables.{transition}
use Rattle.sample_written.specs.Tables.{net_of_choices}
use Rattle.sample_written.proofs.net_of_choices.Goals as goal

pub returns : goal.returns
unfolding bytes transition net_of_choices
returns c =
    simp (c.put_transition-6.ensures, c.put_transition-5.ensures, c.put_transition-4.ensures, c.put_transition-3.ensures, c.put_transition-2.ensures, c.put_transition.ensures)

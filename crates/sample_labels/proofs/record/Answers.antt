-- `sample_labels::record` meets its contract. Assumes nothing.
use Rattle.sample_bytes.specs.Bytes.{bytes}
use Rattle.sample_labels.specs.Files.{record_of}
use Rattle.sample_labels.proofs.record.Goals as goal

pub returns : goal.returns
unfolding bytes record_of
returns c = simp (c.put_bytes.ensures, c.put_number-2.ensures, c.put_number.ensures, c.from.ensures, c.from-2.ensures)

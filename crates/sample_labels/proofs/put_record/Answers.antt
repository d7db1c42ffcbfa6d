-- `sample_labels::put_record` meets its contract. Assumes nothing.
use Rattle.sample_labels.proofs.put_record.Goals as goal

pub returns : goal.returns
returns c = simp c.record-bytes.ensures at c.put_bytes.ensures

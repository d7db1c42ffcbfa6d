-- `pnml_records::put_records` meets its contract. The invariant: the records of the transitions below t stand in the room. Assumes nothing.
use Prim.Native.Nat.{ℕ}
use mathlib.Core.Path.{◌≡◌, refl, ap, ◌∙◌}
use native.Mathlib.Omega.{arith}
use lib.Seq.{sets}
use Rattle.pnml_records.specs.Records.{records_by}
use Rattle.pnml_records.proofs.Stores.{next_record}
use Rattle.pnml_records.proofs.put_records.Goals as goal

pub loop-t-init : goal.loop-t-init
unfolding records_by
loop-t-init c = (refl, refl)

pub loop-t-preserved : goal.loop-t-preserved
loop-t-preserved c =
    let l = c.loop-t in
    (c.put_record.auto.room ∙ l.invariant.0, next_record _ _ _ _ l.t l.invariant.1 c.put_record.ensures)

pub returns : goal.returns
returns c =
    let s = c.args in
    let l = c.loop-t in
    let all : l.t ≡ s.count = omega (arith, c.loop-t-test.false) in
    l.invariant.1 ∙ ap (λ (k : ℕ). sets s.room.now 0 (records_by s.kept.now.pre s.kept.now.post s.kept.now.action k)) all

-- `sample_pnml::put_draft` meets its contract. Assumes nothing.
use Prim.Native.Nat.{◌≤◌}
use native.Mathlib.Omega.{arith}
use Rattle.texts.specs.Text.{bytes}
use Rattle.sample_pnml.specs.Built.{draft}
use Rattle.sample_pnml.proofs.Puts.{join, elements_length}
use Rattle.sample_pnml.proofs.put_draft.Goals as goal

pub put_elements-requires : goal.put_elements-requires
put_elements-requires c = let p = c.args.places in
    let h : p ≤ 100 = c.requires.0 in
    let l = elements_length (bytes "<place id=\"p") (bytes "\"><initialMarking><text>1</text></initialMarking></place>") p (omega arith) (omega arith) h in
    omega (arith, l, c.put_elements-at.ensures.after_it, c.put_part-at-2.ensures.after_it, c.put_part-at.ensures.after_it)

pub returns : goal.returns
unfolding draft
returns c = join c.put_part-at.ensures (join c.put_part-at-2.ensures (join c.put_elements-at.ensures c.put_elements.ensures))

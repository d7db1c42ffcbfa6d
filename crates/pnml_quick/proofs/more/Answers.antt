-- `pnml_quick::more` meets its contract. The invariant: the bytes up to k are those of v. Assumes nothing.
use mathlib.Core.Path.{sym, ◌∙◌}
use Rattle.pnml_quick.proofs.Numbers.{begun_more, read_over, open_low, other_low, other_high}
use Rattle.pnml_quick.proofs.more.Goals as goal

pub returns-then-lo-v : goal.returns-then-lo-v
returns-then-lo-v c =
    read_over _ _ _ _ _ _ c.loop-k.invariant c.loop-k-test.true (sym c.other.ensures ∙ c.if-other.true) c.if-lo-v.true

pub worth-requires : goal.worth-requires
worth-requires c =
    let e = sym c.other.ensures ∙ c.if-other.false in
    (other_low _ e, other_high _ e)

pub loop-k-preserved : goal.loop-k-preserved
loop-k-preserved c =
    begun_more _ _ _ _ _
    c.loop-k.invariant
    c.loop-k-test.true
    (sym c.other.ensures ∙ c.if-other.false)
    (open_low _ _ c.if-v.false)
    c.worth.ensures

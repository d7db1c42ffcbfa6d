-- `pnml_quick::whole_number` meets its contract. Assumes nothing.
use mathlib.Core.Path.{sym, ◌∙◌}
use Rattle.pnml_quick.proofs.Numbers.{begun_one, other_low, other_high}
use Rattle.pnml_quick.proofs.whole_number.Goals as goal

pub worth-requires : goal.worth-requires
worth-requires c =
    let e = sym c.other.ensures ∙ c.if-other.false in
    (other_low _ e, other_high _ e)

pub more-requires : goal.more-requires
more-requires c =
    let h = c.in_ok-b.ensures.lookup.3 in
    let b = h.1 0 in
    begun_one c.args.text.now c.args.at c.worth.result h.0 (cc) (cc)

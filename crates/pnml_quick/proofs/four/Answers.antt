-- `pnml_quick::four` meets its contract. Assumes nothing.
use mathlib.Core.Path.{sym, ◌∙◌}
use borrow.Author.Tests.{eqb-true}
use Rattle.tables.proofs.Numbers.{Bytes}
use Rattle.pnml_quick.proofs.Words.{fields_same}
use Rattle.pnml_quick.proofs.four.Goals as goal

pub returns : goal.returns
unfolding Bytes
returns c =
    λ e.
    fields_same 4 _ _ _ _
    (λ i. (c.shared_slice_known-1.given i).fits)
    (λ i. (c.shared_slice_known-2-1.given i).fits)
    (sym c.u32_at.ensures ∙ eqb-true _ _ e ∙ c.u32_at-2.ensures)

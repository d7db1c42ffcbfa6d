-- `compact::compact` meets its contract. Assumes nothing.
use mathlib.Core.Path.{sym, ap}
use Rattle.std.proofs.lemmas.Result.{err_from_is_err_and}
use Rattle.checker.specs.Outcomes.{verdict}
use Rattle.compact_tables.specs.Tables.{tables}
use Rattle.compact.specs.Result.{OwnNumbers}
use Rattle.compact.proofs.Checked.{accepted_ready, rejected_answer, rejected_worth, accepted_answer, accepted_worth}
use Rattle.compact.proofs.compact.Goals as goal

pub returns-in_err-check : goal.returns-in_err-check
unfolding OwnNumbers
returns-in_err-check c =
    let p = err_from_is_err_and c.from_residual.result c.from_residual.ensures.1 in
    let e = c.in_err-check.ensures.0 in
    rw (p.1, p.2) (record {
      answer = rejected_answer c.args.ask.now c.args.net.now c.args.formulas.now c.args.tree.now _ e
          (tables c.args.new_ask.now c.args.new_formulas.now c.args.new_tree.now);
      worth = rejected_worth c.args.ask.now c.args.net.now c.args.formulas.now c.args.tree.now
          (λ i. (c.shared_slice_known-1.given i).fits)
          (λ i. (c.shared_slice_known-3-1.given i).fits)
          (λ i. (c.shared_slice_known-4-1.given i).fits)
          _ e;
      own = c.in_err-check.ensures.2;
    })

pub compact_accepted-requires : goal.compact_accepted-requires
unfolding verdict
compact_accepted-requires c = accepted_ready _ _ _ _ (sym (ap (λ o. o.word) c.in_ok-check.ensures.0))

pub returns : goal.returns
unfolding verdict
returns c =
    let h = sym (ap (λ o. o.word) c.in_ok-check.ensures.0) in record {
      answer = accepted_answer _ _ _ _ h _ c.compact_accepted.ensures.0;
      worth = λ z. accepted_worth c.args.ask.now c.args.net.now c.args.formulas.now c.args.tree.now
          (λ i. (c.shared_slice_known-1.given i).fits)
          (λ i. (c.shared_slice_known-3-1.given i).fits)
          (λ i. (c.shared_slice_known-4-1.given i).fits)
          h;
      own = c.compact_accepted.ensures.1;
    }

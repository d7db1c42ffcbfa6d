-- `category::CategoryRecord::text_good` meets its contract. Assumes nothing.
use mathlib.Core.Path.{◌∙◌}
use native.Mathlib.Omega.{arith}
use Rattle.category.proofs.Texts.{run_at, text-good}
use Rattle.category.proofs.CategoryRecord.text_good.Goals as goal

pub returns : goal.returns
returns c =
    let r = c.args.self.now in
    let front = c.run_follows-front.ensures ∙ run_at r.file.now r.number 0 _ _ (omega arith) (omega arith) in
    let back = c.run_follows-back.ensures ∙ run_at r.file.now r.number 7 _ _ (omega arith) (omega arith) in
    simp (front, back, c.good_byte.ensures, c.text_byte.ensures) (text-good _ _)

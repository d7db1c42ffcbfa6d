-- What a `?` returns where a part of the text is not there. Assumes nothing.
use mathlib.Core.Path.{◌≡◌, sym, ◌∙◌, ap, subst}
use Rattle.std.specs.Prelude.{Result, Err}
use Rattle.std.specs.Result.{IsErrAnd}
use Rattle.std.proofs.lemmas.Result.{err_from_is_err_and}
use Rattle.pnml_scan.specs.declared.Left.{Left}

-- what holds of the error holds of what is returned
pub exit : {T : Type 0} (P : Result T Left → Type 0) (r : Result T Left) (e : Left) → IsErrAnd r (λ x. x ≡ e) → P (Err e) → P r
exit P r e h p = let x = err_from_is_err_and r h in subst P (sym (x.1 ∙ ap Err x.2)) p

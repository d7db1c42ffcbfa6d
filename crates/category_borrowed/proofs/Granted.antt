-- Only a file that is valid under document 01 is converted. Assumes nothing.
use mathlib.Core.Path.{◌≡◌, refl, sym, ◌∙◌}
use mathlib.Core.Bool.{Bool, true, false, cond, true≢false}
use mathlib.Core.List.{List}
use Prim.Native.Nat.{ℕ}
use lib.ListN.{length}
use lib.Dec.{eqb, leb}
use borrow.Author.Tests.{eq-eqb}
use Rattle.tables.specs.Faults.{fault}
use Rattle.category_borrowed.specs.Files.{fault_of, valid}
use Rattle.category_borrowed.specs.Answer.{Answer, refuse, granted, convert_answer}

pub granted_valid : (file room : List ℕ) → (convert_answer file room).found.number ≡ 0 → valid file ≡ true
unfolding convert_answer valid
granted_valid file room e = by (valid file) refl e
  where
    by : (b : Bool) → valid file ≡ b
        → (cond b (cond (leb (length file) (length room)) (granted file room) (refuse (fault 12 0) room)) (refuse (fault_of file) room)).found.number ≡ 0
        → b ≡ true
    by true p z = refl
    by false p z = absurd (true≢false (sym (eq-eqb (fault_of file).number 0 z) ∙ p))

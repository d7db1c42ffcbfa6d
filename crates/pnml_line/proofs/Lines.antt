-- The line of an answer, from its numbers as the code has them. Assumes nothing.
use mathlib.Core.Path.{◌≡◌, refl, sym, ap₂, ◌∙◌, subst}
use mathlib.Core.List.{List}
use Prim.Native.Nat.{ℕ, zero-le}
use borrow.Author.Tests.{eq-eqb, ne_eqb}
use Rattle.tables.proofs.Tests.{if_true, if_false}
use Rattle.texts.specs.Line.{Put}
use Rattle.std.specs.Prelude.{Result}
use Rattle.pnml_write.specs.declared.WriteRefusal.{WriteRefusal}
use Rattle.pnml_write.specs.Answer.{found_of as fault_of}
use Rattle.pnml_read.specs.declared.Found.{Found}
use Rattle.pnml_read.specs.declared.ReadRefusal.{ReadRefusal}
use Rattle.pnml_read.specs.Answer.{number_of, place_of, found_of}
use Rattle.pnml_line.specs.Line.{refused_line, found_line, write_line, read_line}

module _ {l l' : List ℕ} {s : ℕ} where
  -- the same bytes by another name
  named : {vs ws : List ℕ} → vs ≡ ws → Put l l' 0 vs s → Put l l' 0 ws s
  named e = subst (λ (vs : List ℕ). Put l l' 0 vs s) e

  pub write_refused : (w : Result ℕ WriteRefusal) {n k : ℕ} → n ≡ (fault_of w).number → k ≡ (fault_of w).place → (n ≡ 0 → ⊥) → Put l l' 0 (refused_line n k) s
      → Put l l' 0 (write_line w) s
  unfolding write_line
  write_refused w p q z = named (ap₂ refused_line p q ∙ sym (if_false _ _ _ (ne_eqb (fault_of w).number 0 (λ e. z (p ∙ e)))))

  pub read_refused : (r : Result Found ReadRefusal) {n k : ℕ} → n ≡ number_of r → k ≡ place_of r → (n ≡ 0 → ⊥) → Put l l' 0 (refused_line n k) s
      → Put l l' 0 (read_line r) s
  unfolding read_line
  read_refused r p q z = named (ap₂ refused_line p q ∙ sym (if_false _ _ _ (ne_eqb (number_of r) 0 (λ e. z (p ∙ e)))))

  pub read_found : (r : Result Found ReadRefusal) {n p m : ℕ} → n ≡ number_of r → n ≡ 0 → p ≡ (found_of r).places → m ≡ (found_of r).marking → Put l l' 0 (found_line p m) s
      → Put l l' 0 (read_line r) s
  unfolding read_line
  read_found r e z p q = named (ap₂ found_line p q ∙ sym (if_true _ _ _ (eq-eqb (number_of r) 0 (sym e ∙ z))))

-- no line where the text is written
pub write_none : {l : List ℕ} (w : Result ℕ WriteRefusal) {n : ℕ} → n ≡ (fault_of w).number → n ≡ 0 → Put l l 0 (write_line w) 0
unfolding write_line
write_none w e z =
    named (sym (if_true _ _ _ (eq-eqb (fault_of w).number 0 (sym e ∙ z)))) (record { next = refl; room = zero-le; bytes = refl })

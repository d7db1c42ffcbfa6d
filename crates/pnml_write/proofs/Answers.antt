-- The writer's answer: what each way through the code has found fixes it. Assumes nothing.
use mathlib.Core.Path.{◌≡◌, sym, ap, ap₂, ◌∙◌}
use mathlib.Core.Bool.{Bool, true, cond}
use mathlib.Core.List.{List, ◌++◌}
use Prim.Native.Nat.{ℕ, ◌/◌, ◌≤◌, ◌<◌}
use native.Mathlib.Nat.{zero-add}
use native.Mathlib.Omega.{arith}
use lib.ListN.{length, drop}
use lib.Seq.{sets, sets-eq}
use lib.Dec.{eqb, leb}
use borrow.Author.Tests.{lt-ltb, le-ltb, leb-true}
use Rattle.tables.proofs.Tests.{and_right}
use Rattle.tables.proofs.Counts.{sized_most}
use Rattle.net.specs.declared.Refusal.{Refusal}
use Rattle.std.specs.Prelude.{Ok, Err}
use Rattle.net.specs.Table.{places_good, table_sized}
use Rattle.net.specs.Answer.{Fault, fault, refusal, checked, load_fault}
use Rattle.net.proofs.Answers.{refusal_number, load_passed}
use Rattle.pnml_write.specs.declared.WriteRefusal.TheVariants.{Net, Short}
use Rattle.pnml_write.specs.Answer.{Answer, refuse, grant, found_of, length_of, answer_of, put_answer, text_of, write_answer}
use Rattle.pnml_put.specs.Put.{Whole, net_text}

-- a table of at most 64 records
pub count_few : (bytes : List ℕ) → table_sized bytes ≡ true → length bytes / 24 ≤ 64
unfolding table_sized
count_few bytes s = sized_most 24 1 64 (length bytes) s

-- what a net that is loaded has passed
module _ (places m : ℕ) (bytes : List ℕ) (good : checked (Ok tt) ≡ load_fault places m bytes) where
  -- the table is one of 1 to 64 records
  pub table-sized : table_sized bytes ≡ true
  unfolding checked
  table-sized = (load_passed places m bytes good).1

  pub places_few : places ≤ 64
  unfolding places_good checked
  places_few = leb-true places 64 (and_right (leb 1 places) (leb places 64) (load_passed places m bytes good).0)

module _ (places m : ℕ) (bytes room : List ℕ) where
  -- by the fault of loading
  abbrev by-fault : Fault → Answer
  by-fault f = cond (eqb f.number 0) (put_answer (text_of places m bytes) room) (refuse f room)

  -- by the test of the room
  abbrev by_test : Bool → Answer
  by_test b =
      cond b (refuse (fault 12 0) room)
      (grant (length (text_of places m bytes)) (text_of places m bytes ++ drop (length (text_of places m bytes)) room))

  pub write_refused : (r : Refusal) → checked (Err r) ≡ load_fault places m bytes → answer_of (Err (Net r)) room ≡ write_answer places m bytes room
  unfolding write_answer found_of length_of checked
  write_refused r e =
      sym
      (ap by-fault (sym e)
      ∙ ap (λ b. cond b (put_answer (text_of places m bytes) room) (refuse (refusal r) room)) (refusal_number r))

  module _ (good : checked (Ok tt) ≡ load_fault places m bytes) where
    write_loaded : write_answer places m bytes room ≡ put_answer (text_of places m bytes) room
    unfolding write_answer checked
    write_loaded = ap by-fault (sym good)

    pub write_short : (n : ℕ) → n ≡ length (net_text bytes places m) → length room < n → answer_of (Err Short) room ≡ write_answer places m bytes room
    unfolding put_answer found_of length_of text_of net_text
    write_short n e h = sym (write_loaded ∙ ap by_test (lt-ltb (length room) (length (text_of places m bytes)) (omega (arith, e))))

    -- a text that is put where it fits
    write_put : {n : ℕ} {after : List ℕ} → length (text_of places m bytes) ≤ length room
        → (n ≡ length (text_of places m bytes)) × (after ≡ sets room 0 (text_of places m bytes)) → answer_of (Ok n) after ≡ write_answer places m bytes room
    unfolding put_answer found_of length_of
    write_put {n} {after} h p =
        ap₂ (λ (x : ℕ) (l : List ℕ). grant x l) p.0 stands
        ∙ sym (write_loaded ∙ ap by_test (le-ltb (length room) (length (text_of places m bytes)) h))
      where
        stands : after ≡ text_of places m bytes ++ drop (length (text_of places m bytes)) room
        stands =
            p.1
            ∙ sets-eq (text_of places m bytes) room 0 (omega arith)
            ∙ ap (λ (x : ℕ). text_of places m bytes ++ drop x room) (zero-add (length (text_of places m bytes)))

    pub write_whole : {k n r : ℕ} {after : List ℕ} → n ≡ length (net_text bytes places m) → n ≤ length room → Whole k room after (net_text bytes places m) r
        → answer_of (Ok r) after ≡ write_answer places m bytes room
    unfolding net_text text_of
    write_whole e h w = let f : length (text_of places m bytes) ≤ length room = omega (arith, e) in write_put f (w.done f)

    pub write_ample : {k r : ℕ} {after : List ℕ} → k ≤ length room → Whole k room after (net_text bytes places m) r
        → answer_of (Ok r) after ≡ write_answer places m bytes room
    unfolding net_text text_of
    write_ample h w = let f : length (text_of places m bytes) ≤ length room = omega (arith, w.few) in write_put f (w.done f)

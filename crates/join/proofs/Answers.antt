-- The answers of setting two nets side by side: what each way through the code has found fixes the answer. Assumes nothing.
use mathlib.Core.Path.{◌≡◌, refl, sym, ap, ap₂, ◌∙◌}
use mathlib.Core.Bool.{false, cond}
use mathlib.Core.List.{List, ◌++◌}
use Prim.Native.Nat.{ℕ, ◌+◌, ◌≤◌, ◌<◌}
use native.Mathlib.Omega.{arith}
use lib.ListN.{length, take, drop}
use lib.Seq.{sets, take-length}
use lib.Dec.{eqb}
use borrow.Author.Tests.{le-leb, lt-leb}
use Rattle.tables.specs.Lists.{laid}
use Rattle.tables.proofs.Tests.{if_true, if_false}
use Rattle.tables.proofs.Scans.{or_first, or_second}
use Rattle.bitset.specs.Sets.{union, shifted}
use Rattle.stores.proofs.Stores.{after, sets_front}
use Rattle.net.specs.declared.Refusal.{Refusal}
use Rattle.net.specs.Table.{transitions}
use Rattle.net.specs.Answer.{Fault, no_fault, fault, or_else, refusal}
use Rattle.net.proofs.Answers.{refusal_number}
use Rattle.std.proofs.Common.{Ok, Err}
use Rattle.join.specs.declared.JoinRefusal.TheVariants.{Half, Large, Short}
use Rattle.join.specs.Joint.{Marked, beside, shifted_record, joint}
use Rattle.join.specs.Answer.{Answer, refuse, granted, half_fault, size_fault, room_fault, join_fault, join_answer}
use Rattle.join.specs.Result.{fault_of, numbers_of, answer_of}
use Rattle.join.proofs.Fitting.{joint_length}

module _ (f s : Marked) (room : List ℕ) where
  answered : Fault → Answer
  answered x = cond (eqb x.number 0) (granted (joint f s) room) (refuse x room)

  -- a fault is the answer
  faulty : (x : Fault) → x ≡ join_fault f s room → eqb x.number 0 ≡ false → refuse x room ≡ join_answer f s room
  unfolding join_answer answered
  faulty x e h = sym (if_false (eqb x.number 0) (granted (joint f s) room) (refuse x room) h) ∙ ap answered e

  -- ---- the halves

  pub refused_first : (r : Refusal) → refusal r ≡ half_fault f → answer_of (Err (Half r)) room ≡ join_answer f s room
  unfolding answer_of numbers_of fault_of join_fault
  refused_first r e = faulty (refusal r) (or_first (refusal r) (half_fault f) _ e (refusal_number r)) (refusal_number r)

  module _ (p : half_fault f ≡ no_fault) where
    pub refused_second : (r : Refusal) → refusal r ≡ half_fault s → answer_of (Err (Half r)) room ≡ join_answer f s room
    unfolding answer_of numbers_of fault_of join_fault
    refused_second r e =
        faulty (refusal r) (or_second (half_fault f) _ (refusal r) (sym p) (or_first (refusal r) (half_fault s) _ e (refusal_number r)))
        (refusal_number r)

    -- ---- 15 and 12

    module _ (q : half_fault s ≡ no_fault) where
      later : (x : Fault) → x ≡ or_else (size_fault f s) (room_fault f s room) → x ≡ join_fault f s room
      unfolding join_fault
      later x e = or_second (half_fault f) _ x (sym p) (or_second (half_fault s) _ x (sym q) e)

      pub refused-large : size_fault f s ≡ fault 15 0 → answer_of (Err Large) room ≡ join_answer f s room
      unfolding answer_of numbers_of fault_of
      refused-large e = faulty (fault 15 0) (later (fault 15 0) (or_first (fault 15 0) (size_fault f s) (room_fault f s room) (sym e) refl)) refl

      module _ (z : size_fault f s ≡ no_fault) where
        last : (x : Fault) → x ≡ room_fault f s room → x ≡ join_fault f s room
        last x e = later x (or_second (size_fault f s) (room_fault f s room) x (sym z) e)

        pub refused_short : length room < length f.bytes + length s.bytes → answer_of (Err Short) room ≡ join_answer f s room
        unfolding answer_of numbers_of fault_of room_fault
        refused_short h =
            faulty (fault 12 0)
            (last (fault 12 0)
            (sym (if_false _ no_fault (fault 12 0) (lt-leb (length (joint f s).bytes) (length room) (omega (arith, joint_length f s q))))))
            refl

        -- ---- granted

        none_found : length f.bytes + length s.bytes ≤ length room → no_fault ≡ join_fault f s room
        unfolding room_fault
        none_found h =
            last no_fault (sym (if_true _ no_fault (fault 12 0) (le-leb (length (joint f s).bytes) (length room) (omega (arith, joint_length f s q)))))

        -- the first half's records are copied, the second's follow
        pub joins : {marking shift : ℕ} {r₁ r₂ : List ℕ} → length f.bytes + length s.bytes ≤ length room
            → shift ≡ shifted f.places s.marking → marking ≡ union f.marking shift
            → r₁ ≡ sets room 0 (take (length f.bytes) (drop 0 f.bytes))
            → r₂ ≡ sets r₁ (length f.bytes) (laid (shifted_record f.places s.bytes) (transitions s.bytes))
            → answer_of (Ok (record { places = f.places + s.places; marking = marking; length = length f.bytes + length s.bytes })) r₂ ≡ join_answer f s room
        unfolding answer_of numbers_of join_answer answered joint beside
        joins {marking} {shift} {r₁} {r₂} h a b c d =
            ap₂ (λ (m : ℕ) (r : List ℕ). told m (length f.bytes + length s.bytes) r) (b ∙ ap (union f.marking) a) stored
            ∙ ap (λ (n : ℕ). told (joint f s).marking n ((joint f s).bytes ++ drop (length (joint f s).bytes) room)) (sym (joint_length f s q))
            ∙ ap answered (none_found h)
          where
            told : (marking length : ℕ) (room : List ℕ) → Answer
            told m n r = record { found = no_fault; places = f.places + s.places; marking = m; length = n; room = r }

            stored : r₂ ≡ (joint f s).bytes ++ drop (length (joint f s).bytes) room
            stored =
                after room 0 f.bytes (laid (shifted_record f.places s.bytes) (transitions s.bytes)) (omega arith)
                (c ∙ ap (sets room 0) (take-length f.bytes)) d
                ∙ sets_front room (joint f s).bytes (omega (arith, joint_length f s q))

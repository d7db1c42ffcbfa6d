-- The part of a file that is the text of an action, by the record which the search answers; it lies inside the file. Assumes nothing.
use mathlib.Core.Path.{◌≡◌, refl, sym, ap}
use mathlib.Core.Bool.{Bool, true, false, cond}
use mathlib.Core.List.{List, []}
use Prim.Native.Nat.{ℕ, ◌+◌, ◌-◌, ◌*◌, ◌≤◌, ◌<◌}
use native.Mathlib.Omega.{arith}
use lib.ListN.{length, take, drop, length-drop}
use lib.Seq.{length-take-le}
use lib.Dec.{eqb, ltb}
use borrow.Author.Tests.{lt-ltb, le-ltb, ltb-true, ltb-false}
use Rattle.std.proofs.Common.{Option, Some, None, MatchOption}
use Rattle.std.specs.Option.{unwrap_or}
use Rattle.tables.specs.Below.{some_below}
use Rattle.tables.specs.Lists.{first}
use Rattle.tables.proofs.Entries.{first_le}
use Rattle.tables.proofs.Counts.{record_inside}
use Rattle.category.specs.Records.{count, text_byte, text_length, has_action}
use Rattle.category.specs.Labels.{has, record_of, text_offset, text_size, text_of}
use Rattle.category.specs.Serving.{IsAnswer}
use Rattle.category.proofs.Search.{record_none}

module _ (file : List ℕ) (a : ℕ) where
  -- the part, by the record
  module _ (i : ℕ) (e : i ≡ record_of file a) where
    pub offset_in : i < count file → i * 32 + 8 ≡ text_offset file a
    unfolding text_offset
    offset_in l = rw (← e, lt-ltb i (count file) l)

    pub size_in : i < count file → text_length file i ≡ text_size file a
    unfolding text_size
    size_in l = rw (← e, lt-ltb i (count file) l)

    pub offset_out : count file ≤ i → 0 ≡ text_offset file a
    unfolding text_offset
    offset_out l = rw (← e, le-ltb i (count file) l)

    pub size_out : count file ≤ i → 0 ≡ text_size file a
    unfolding text_size
    size_out l = rw (← e, le-ltb i (count file) l)

pub text_length_le : (file : List ℕ) (i : ℕ) → text_length file i ≤ 24
unfolding text_length
text_length_le file i = first_le (λ j. eqb (text_byte file i j) 0) 24

pub part_inside : (file : List ℕ) (a : ℕ) → text_offset file a + text_size file a ≤ length file
unfolding text_offset text_size
part_inside file a = by (record_of file a) (ltb (record_of file a) (count file)) refl
  where
    by : (i : ℕ) (b : Bool) → ltb i (count file) ≡ b → cond b (i * 32 + 8) 0 + cond b (text_length file i) 0 ≤ length file
    by i true e = omega (arith, record_inside 32 (length file) i (ltb-true i (count file) e), text_length_le file i)
    by i false e = omega arith

-- the text's length
pub length_text : (file : List ℕ) (a : ℕ) → length (text_of file a) ≡ text_size file a
unfolding text_of
length_text file a = length-take-le (text_size file a) (drop (text_offset file a) file) (rw (length-drop (text_offset file a) file) room)
  where
    room : text_size file a ≤ length file - text_offset file a
    room = omega (arith, part_inside file a)

-- where the search answers nothing, the text is empty and stands at the start
pub nothing : (file : List ℕ) (a : ℕ) → record_of file a ≡ count file → ([] ≡ text_of file a) × (0 ≡ text_offset file a)
unfolding text_of
nothing file a e =
    let s : 0 ≡ text_size file a = size_out file a (count file) (sym e) (omega arith) in
    (ap (λ (n : ℕ). take n (drop (text_offset file a) file)) s, offset_out file a (count file) (sym e) (omega arith))

-- what the search answers, or what stands for it where it answers nothing
pub answer_or : {X : Type 0} (file : List ℕ) (a : ℕ) (IsSo IsAt : X → Type 0) (r : Option X) (d : X) → IsAnswer file a r IsSo
    → MatchOption r (Unit {0}) IsAt → (record_of file a ≡ count file → IsSo d × IsAt d) → IsSo (unwrap_or r d) × IsAt (unwrap_or r d)
answer_or file a IsSo IsAt None d h k z = z h
answer_or file a IsSo IsAt (Some x) d h k z = (h.1, k)

-- no record, no text
pub lacks : (file : List ℕ) (a : ℕ) → has file a ≡ false → 0 ≡ text_size file a
unfolding has some_below
lacks file a e = size_out file a (count file) (sym none) (omega arith)
  where
    none : record_of file a ≡ count file
    none = record_none file a (ltb-false (first (has_action file a) (count file)) (count file) e)

-- The lookup that stops at a greater action finds what the earlier one found, wherever the actions ascend. Assumes nothing.
use mathlib.Core.Path.{◌≡◌, refl, ap, ap₂}
use mathlib.Core.Bool.{Bool, true, false, cond, ◌&&◌}
use mathlib.Core.List.{List, []}
use Prim.Native.Nat.{ℕ, ◌+◌, ◌*◌}
use lib.ListN.{take, drop}
use lib.Dec.{ltb}
use Rattle.tables.specs.Below.{some_below}
use Rattle.category.specs.Records.{count, text_length}
use Rattle.category.specs.Faults.{faultless}
use Rattle.category.specs.Labels.{has, record_of, text_offset, text_size, text_of, label_of, place_in, nowhere, place_of}
use Rattle.category.specs.Earlier.{earlier_record, earlier_offset, earlier_size, earlier_text, earlier_label, earlier_place_in, earlier_place, AsBefore}
use Rattle.category.specs.declared.LabelPlace.{LabelPlace}
use Rattle.category.proofs.Ascent.{Rising, rising}
use Rattle.category.proofs.Search.{record_first}
use Rattle.category.proofs.Answers.{first_good, second_good}
use Rattle.category.proofs.Faultless.{rises}

-- one file
module _ (file : List ℕ) (r : Rising file (count file)) (a : ℕ) where
  record_same : record_of file a ≡ earlier_record file a
  unfolding earlier_record
  record_same = record_first r a

  offset_same : text_offset file a ≡ earlier_offset file a
  unfolding text_offset earlier_offset has some_below earlier_record
  offset_same = ap (λ (x : ℕ). cond (ltb x (count file)) (x * 32 + 8) 0) record_same

  size_same : text_size file a ≡ earlier_size file a
  unfolding text_size earlier_size has some_below earlier_record
  size_same = ap (λ (x : ℕ). cond (ltb x (count file)) (text_length file x) 0) record_same

  text_same : text_of file a ≡ earlier_text file a
  unfolding text_of earlier_text
  text_same = ap₂ (λ (s o : ℕ). take s (drop o file)) size_same offset_same

  place_in_same : (number : ℕ) → place_in number file a ≡ earlier_place_in number file a
  unfolding place_in earlier_place_in
  place_in_same number = ap₂ at offset_same size_same
    where
      at : (o s : ℕ) → LabelPlace
      at o s = record { file = number; offset = o; length = s }

-- two files: where one is faulty, there is no label
module _ (translation house : List ℕ) (a : ℕ) where
  abbrev good : Bool
  good = faultless translation && faultless house

  label_same : label_of translation house a ≡ earlier_label translation house a
  unfolding label_of earlier_label
  label_same = by good refl
    where
      by : (g : Bool) → good ≡ g
          → cond g (cond (has translation a) (text_of translation a) (text_of house a)) []
          ≡ cond g (cond (has translation a) (earlier_text translation a) (earlier_text house a)) []
      by true g =
          ap₂ (cond (has translation a)) (text_same translation (rises translation (first_good translation house g)) a)
          (text_same house (rises house (second_good translation house g)) a)
      by false g = refl

  place_same : place_of translation house a ≡ earlier_place translation house a
  unfolding place_of earlier_place
  place_same = by good refl
    where
      by : (g : Bool) → good ≡ g
          → cond g (cond (has translation a) (place_in 0 translation a) (cond (has house a) (place_in 1 house a) nowhere)) nowhere
          ≡ cond g (cond (has translation a) (earlier_place_in 0 translation a) (cond (has house a) (earlier_place_in 1 house a) nowhere)) nowhere
      by true g =
          ap₂ (λ x y. cond (has translation a) x (cond (has house a) y nowhere))
          (place_in_same translation (rises translation (first_good translation house g)) a 0)
          (place_in_same house (rises house (second_good translation house g)) a 1)
      by false g = refl

pub as_before : AsBefore
as_before =
    record {
      label = label_same;
      place = place_same;
      text = λ file h. text_same file (rising file (count file) h);
      offset = λ file h. offset_same file (rising file (count file) h);
    }

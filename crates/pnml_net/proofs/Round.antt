-- A net with a marking drawn and read back is the same, and so is a drawing read and drawn again. Assumes nothing.
use mathlib.Core.Path.{◌≡◌, ap, ap₂, ◌∙◌, subst}
use mathlib.Core.Bool.{true, ◌&&◌}
use mathlib.Core.List.{List}
use Prim.Native.Nat.{ℕ, ◌≤◌, ◌<◌}
use lib.ListN.{get_or}
use Rattle.tables.proofs.Numbers.{Bytes}
use Rattle.tables.proofs.Tests.{and_left, and_right}
use Rattle.net.specs.declared.Net.{Net}
use Rattle.net.specs.Table.{transitions, net_of}
use Rattle.net.specs.Answer.{load_fault}
use Rattle.pnml_shape.specs.Drawing.{Drawing, at_most, arcs_good, good}
use Rattle.pnml_net.specs.Nets.{countdown, mark_of, net_arcs, entry_of, drawing_of, marking_of, records_of, numbered}
use Rattle.pnml_net.specs.Round.{RoundTrip, drawn, places_in, transitions_in, ReadTrip}
use Rattle.pnml_net.proofs.Marks.{countdown_length, marking_back}
use Rattle.pnml_net.proofs.Good.{drawing_good}
use Rattle.net.proofs.Loaded.{Loaded, load_has}
use Rattle.pnml_net.proofs.Records.{entries_most, records_loaded}
use Rattle.pnml_net.proofs.Lists.{numbered_all, numbered_most, marking_within, marks_again}
use Rattle.pnml_net.proofs.Fields.{records_bytes}
use Rattle.pnml_net.proofs.Again.{Fits, loads, net_count, net-arcs, net_entries}

-- ---- a net with a marking in which loading finds no fault, and whose bytes are bytes

module _ (places m : ℕ) (bytes : List ℕ) (clear : (load_fault places m bytes).number ≡ 0) (low : (i : ℕ) → get_or bytes i 0 < 256) where
  has : Loaded places m bytes
  has = load_has places m bytes clear

  are : Bytes bytes
  unfolding Bytes
  are = low

  -- the records
  pub records_back : records_of (drawing_of (net_of places bytes) m).arcs (drawing_of (net_of places bytes) m).actions ≡ bytes
  records_back = records_loaded places m bytes has are

  -- all of it
  pub round : RoundTrip places m bytes
  unfolding drawing_of net_of
  round =
      record {
        fine = drawing_good (net_of places bytes) m (entries_most places m bytes has are);
        places_back = countdown_length (mark_of m) places;
        marking_back = marking_back places m has.marking;
        transitions_back = countdown_length (entry_of (net_of places bytes)) (transitions bytes);
        least = has.least;
        most = has.most;
        records_back = records_back;
      }

-- ---- a good drawing with 1 to 64 places and 1 to 64 transitions, read and drawn again, is the same

module _ (d : Drawing) (fine : good d ≡ true) (places_least : 1 ≤ places_in d) (places_most : places_in d ≤ 64) (least : 1 ≤ transitions_in d)
    (most : transitions_in d ≤ 64) where
  -- the parts of a good drawing
  rest_fine : (at_most 131071 d.actions && arcs_good (places_in d) (transitions_in d) d.arcs) ≡ true
  unfolding good
  rest_fine = and_right (at_most 1 d.marks) (at_most 131071 d.actions && arcs_good (places_in d) (transitions_in d) d.arcs) fine

  marks_fine : at_most 1 d.marks ≡ true
  unfolding good
  marks_fine = and_left (at_most 1 d.marks) (at_most 131071 d.actions && arcs_good (places_in d) (transitions_in d) d.arcs) fine

  actions_fine : at_most 131071 d.actions ≡ true
  actions_fine = and_left (at_most 131071 d.actions) (arcs_good (places_in d) (transitions_in d) d.arcs) rest_fine

  arcs_fine : arcs_good (places_in d) (transitions_in d) d.arcs ≡ true
  arcs_fine = and_right (at_most 131071 d.actions) (arcs_good (places_in d) (transitions_in d) d.arcs) rest_fine

  act : ℕ → ℕ
  act = numbered d.actions

  -- the entries as a countdown
  listed : countdown act (transitions_in d) ≡ d.actions
  unfolding act
  listed = numbered_all d.actions

  act_low : (t : ℕ) → act t ≤ 131071
  unfolding act
  act_low = numbered_most 131071 d.actions actions_fine

  fits : Fits (places_in d) d.arcs act (transitions_in d)
  fits =
      record { fine = arcs_fine; low = act_low; places_least = places_least; places_most = places_most; least = least; most = most }

  -- loading finds no fault in what is read
  read_loads : (load_fault (places_in d) (marking_of d.marks) (records_of d.arcs d.actions)).number ≡ 0
  read_loads =
      subst (λ l. (load_fault (places_in d) (marking_of d.marks) (records_of d.arcs l)).number ≡ 0) listed
      (loads (places_in d) d.arcs act (transitions_in d) fits (marking_of d.marks) (marking_within d.marks))

  -- the net that is read
  net : Net
  net = net_of (places_in d) (records_of d.arcs (countdown act (transitions_in d)))

  net_transitions : net.transitions ≡ transitions_in d
  unfolding net
  net_transitions = net_count (places_in d) d.arcs act (transitions_in d) fits

  -- its entries, arcs and marks are those of the drawing
  actions_again : countdown (entry_of net) net.transitions ≡ d.actions
  unfolding net
  actions_again =
      ap (countdown (entry_of net)) net_transitions
      ∙ net_entries (places_in d) d.arcs act (transitions_in d) fits
      ∙ listed

  arcs_again : net_arcs net net.transitions ≡ d.arcs
  unfolding net
  arcs_again =
      ap (net_arcs net) net_transitions
      ∙ net-arcs (places_in d) d.arcs act (transitions_in d) fits

  net_again : drawing_of net (marking_of d.marks) ≡ d
  unfolding net net_of drawing_of
  net_again =
      ap₂ (λ a l. record { marks = countdown (mark_of (marking_of d.marks)) (places_in d); actions = a; arcs = l }) actions_again arcs_again
      ∙ ap (λ k. record { marks = k; actions = d.actions; arcs = d.arcs }) (marks_again d.marks marks_fine)

  drawn_again : drawn (places_in d) (marking_of d.marks) (records_of d.arcs d.actions) ≡ d
  unfolding net
  drawn_again = subst (λ l. drawn (places_in d) (marking_of d.marks) (records_of d.arcs l) ≡ d) listed net_again

  pub read_again : ReadTrip d
  unfolding Bytes
  read_again = record { are_bytes = records_bytes d.arcs d.actions; loads = read_loads; again = drawn_again }

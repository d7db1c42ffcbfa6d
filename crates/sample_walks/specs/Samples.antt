-- The samples of a walk: the walks to start with, the calls, and what is answered or read after them. Assumes nothing.
use Rattle.std.specs.Prelude.{ℕ, zero, suc, cond, List, ◌∷◌, get_or, replicate, ltb}
use Rattle.net.specs.declared.Numbers.{Numbers}
use Rattle.net.specs.Answer.{Answer}
use Rattle.walk.specs.declared.Walk.{Walk}
use Rattle.walk.specs.State.{empty}
use Rattle.walk.specs.Calls.{load_walk, loaded_answer, read_marking, read_count, read_next}
use Rattle.walk.specs.History.{Call as Made, load, fire, reset, called, fire_all}
use Rattle.sample_nets.specs.Tables.{transition, net_r, optional_r, net_three}
use Rattle.sample_walks.specs.declared.Hand.{Hand}
use Rattle.sample_walks.specs.declared.Seen.{Seen}
use Rattle.sample_walks.specs.declared.Fields.{Fields}
use Rattle.sample_walks.specs.declared.Call.{Call}
use Rattle.sample_walks.specs.declared.Call.TheVariants.{Fire, Reset, LoadR, LoadBeyond, LoadForward, LoadOptional, LoadThree}
use Rattle.sample_walks.specs.declared.Start.{Start}
use Rattle.sample_walks.specs.declared.Start.TheVariants.{New, Full, ByHand}

-- ---- the walks to start with

-- R loaded with 3 places at marking 3, after 65,535 firings of t0
unfoldable pub full : Walk
full = fire_all (load_walk empty 3 3 net_r) (replicate 65535 0)

-- R's net filled in, but for these fields
unfoldable pub by_hand : Hand → Walk
by_hand h =
    record {
      net =
          record {
            places = h.places;
            transitions = h.transitions;
            pre = 1 ∷ 2 ∷ h.pre ∷ replicate 61 0;
            post = 1 ∷ h.post ∷ replicate 62 0;
            action = 1 ∷ 2 ∷ 3 ∷ replicate 61 0;
            optional = h.optional;
          };
      start = h.start;
      present = h.present;
      count = h.count;
      next = h.next;
    }

-- a new walk with a table loaded
unfoldable pub loaded_with : (places m : ℕ) → List ℕ → Walk
loaded_with places m bytes = load_walk empty places m bytes

unfoldable pub started : Start → Walk
started New = empty
started Full = full
started (ByHand h) = by_hand h

-- ---- calls

-- the call that each one makes
unfoldable pub call_of : Call → Made
call_of (Fire t) = fire t
call_of Reset = reset
call_of LoadR = load 3 3 net_r
call_of LoadBeyond = load 3 8 net_r
call_of LoadForward = load 2 1 (transition 1 2 7)
call_of LoadOptional = load 3 3 (optional_r 1)
call_of LoadThree = load 6 21 net_three

-- call n of a list; a firing of transition 0 past its end
unfoldable pub call_at : List Call → ℕ → Made
call_at list n = call_of (get_or list n (Fire 0))

-- a walk after the first n calls of a list
unfoldable pub called_to : Walk → List Call → ℕ → Walk
called_to w list zero = w
called_to w list (suc n) = called (called_to w list n) (call_at list n)

unfoldable pub after : Start → List Call → ℕ → Walk
after s list n = called_to (started s) list n

-- ---- in numbers

unfoldable pub told : Answer → Numbers
told a = record { number = a.found.number; place = a.found.place; marking = a.marking; missing = a.missing; occupied = a.occupied }

unfoldable pub seen : Walk → Seen
seen w = record { number = (loaded_answer w).found.number; place = (loaded_answer w).found.place; marking = read_marking w; count = read_count w; next = read_next w }

-- what a walk carries of the transition t
unfoldable pub fields_of : Walk → ℕ → Fields
fields_of w t =
    cond (ltb t 64)
    (record { pre = get_or w.net.pre t 0; post = get_or w.net.post t 0; action = get_or w.net.action t 0 })
    (record { pre = 0; post = 0; action = 0 })

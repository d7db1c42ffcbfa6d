-- Calls of a walk in sequence, and what they amount to: the net and the marking of the last granted load, and the firings granted since
-- the last granted load or reset; then the stored set, which offers the steps that are granted. `read` gives back no walk and so is no call here.
-- Assumes nothing.
use Rattle.std.specs.Prelude.{ℕ, ◌≡◌, Bool, true, false, cond, ◌&&◌, List, [], ◌∷◌, ◌++◌, length, ltb}
use Rattle.std.proofs.Math.Option.{some}
use Rattle.bitset.specs.Sets.{member}
use Rattle.net.specs.declared.Net.{Net}
use Rattle.net.specs.Table.{net_of}
use Rattle.net.specs.Answer.{Answer}
use Rattle.net.specs.Why.{Explained}
use Rattle.net.specs.Sequence.{after}
use Rattle.walk.specs.declared.Walk.{Walk}
use Rattle.walk.specs.State.{empty, storing, marked, StoresNext, loaded}
use Rattle.walk.specs.Calls.{granted, load_answer, load_walk, fire_answer, fire_walk, loaded_answer, reset_walk, read_marking, read_count, read_next}

pub data Call : Type 0 where
  load : (places m : ℕ) (bytes : List ℕ) → Call
  fire : (t : ℕ) → Call
  reset : Call

-- what a call answers
unfoldable pub answered : Walk → Call → Answer
answered w (load places m bytes) = load_answer places m bytes
answered w (fire t) = fire_answer w t
answered w reset = loaded_answer w

-- the walk after one call
unfoldable pub called : Walk → Call → Walk
called w (load places m bytes) = load_walk w places m bytes
called w (fire t) = fire_walk w t
called w reset = reset_walk w

-- the walk after a sequence of calls
unfoldable pub run : Walk → List Call → Walk
run w [] = w
run w (c ∷ cs) = run (called w c) cs

-- what the calls up to now amount to
pub record Log : Type 0 where
  -- of the last granted load
  pub net : Net
  pub start : ℕ
  -- granted since the last granted load or reset
  pub firings : List ℕ

-- of a new walk
unfoldable pub no_calls : Log
no_calls = record { net = empty.net; start = 0; firings = [] }

-- with one more call of the walk w
unfoldable pub logged : Walk → Log → Call → Log
logged w log (load places m bytes) = cond (granted (load_answer places m bytes)) (record { net = net_of places bytes; start = m; firings = [] }) log
logged w log (fire t) = cond (granted (fire_answer w t)) (record { net = log.net; start = log.start; firings = log.firings ++ (t ∷ []) }) log
logged w log reset = cond (granted (loaded_answer w)) (record { net = log.net; start = log.start; firings = [] }) log

-- with a sequence of calls
unfoldable pub since : Walk → Log → List Call → Log
since w log [] = log
since w log (c ∷ cs) = since (called w c) (logged w log c) cs

-- the walk is what they amount to: its net and start are those of the last granted load, its count is the number of the firings since load
-- or reset, its present marking is where they lead from the start, and its stored set is that of the transitions enabled there (a new walk has no
-- transitions, and the empty set)
pub record Follows (w : Walk) (log : Log) : Type 0 where
  pub net : w.net ≡ log.net
  pub start : w.start ≡ log.start
  pub count : w.count ≡ length log.firings
  pub present : after log.net log.start log.firings ≡ some w.present
  pub next : StoresNext w

-- ---- the steps to offer

-- of a walk made by calls from a new one: firing a transition is granted exactly where it is in the stored set and the count has room
unfoldable pub OffersSteps : Type 0
OffersSteps = (cs : List Call) (t : ℕ) → granted (fire_answer (run empty cs) t) ≡ (member (run empty cs).next t && ltb (run empty cs).count 65535)

-- ---- why a step is refused, of a walk in any condition

-- firing answers 41 with the sets of the transition at the present marking, one of which at least is not empty, and anything else with none
unfoldable pub FireExplained : Type 0
FireExplained = (w : Walk) (t : ℕ) → Explained w.net w.present t (fire_answer w t)

-- ---- the stored set, of a walk in any condition

-- a granted call leaves the set of the transitions enabled at the present marking, whatever was stored before
unfoldable pub LeavesNext : Type 0
LeavesNext = (w : Walk) (c : Call) → granted (answered w c) ≡ true → StoresNext (called w c)

-- nothing else depends on the stored number n: not whether the walk is loaded, no call's answer, not what a granted call leaves, not the marking and
-- the count that are read; a refused call leaves n, and reading tells it
pub record AnyStored (w : Walk) (n : ℕ) : Type 0 where
  pub condition : loaded (storing w n) ≡ loaded w
  pub answer : (c : Call) → answered (storing w n) c ≡ answered w c
  pub after_granted : (c : Call) → granted (answered w c) ≡ true → called (storing w n) c ≡ called w c
  pub after_refused : (c : Call) → granted (answered w c) ≡ false → called (storing w n) c ≡ storing w n
  pub marking : read_marking (storing w n) ≡ read_marking w
  pub count : read_count (storing w n) ≡ read_count w
  pub told : loaded w ≡ true → read_next (storing w n) ≡ n

-- ---- the optional transitions, of a walk in any condition

-- nothing depends on the set n of optional transitions: not whether the walk is loaded, no call's answer, not what is read; a granted load leaves
-- that of its table, and any other call leaves n and, beside it, what it would have left
pub record AnyMarks (w : Walk) (n : ℕ) : Type 0 where
  pub condition : loaded (marked w n) ≡ loaded w
  pub answer : (c : Call) → answered (marked w n) c ≡ answered w c
  pub loads : (places m : ℕ) (bytes : List ℕ) → granted (load_answer places m bytes) ≡ true → load_walk (marked w n) places m bytes ≡ load_walk w places m bytes
  pub stays : (places m : ℕ) (bytes : List ℕ) → granted (load_answer places m bytes) ≡ false → load_walk (marked w n) places m bytes ≡ marked w n
  pub fires : (t : ℕ) → fire_walk (marked w n) t ≡ marked (fire_walk w t) n
  pub resets : reset_walk (marked w n) ≡ marked (reset_walk w) n
  pub marking : read_marking (marked w n) ≡ read_marking w
  pub count : read_count (marked w n) ≡ read_count w
  pub next : read_next (marked w n) ≡ read_next w

-- ---- firings alone

-- the walk after the firings ts, one after the other
unfoldable pub fire_all : Walk → List ℕ → Walk
fire_all w [] = w
fire_all w (t ∷ ts) = fire_all (fire_walk w t) ts

-- each of them is granted
unfoldable pub all_granted : Walk → List ℕ → Bool
all_granted w [] = true
all_granted w (t ∷ ts) = granted (fire_answer w t) && all_granted (fire_walk w t) ts

-- What each call of a walk answers, by document 01's numbers, and the walk after it ("The walk", "Refused because of the state").
-- A refused call leaves the walk as it came. Assumes nothing.
use Rattle.std.specs.Prelude.{ℕ, ◌+◌, Bool, cond, List, Result, Ok, Err, eqb, ltb}
use Rattle.net.specs.Step.{enabled, fired}
use Rattle.net.specs.Table.{net_of}
use Rattle.net.specs.Answer.{fault, Answer as Told, refuse, grant, refused, load_fault, disabled}
use Rattle.walk.specs.declared.Walk.{Walk}
use Rattle.walk.specs.declared.Reading.{Reading}
use Rattle.walk.specs.declared.WalkRefusal.{WalkRefusal}
use Rattle.walk.specs.declared.WalkRefusal.TheVariants.{Unloaded, Net as InNet, Full}
use Rattle.walk.specs.State.{started_at, moved_to, loaded}

-- document 01's number and record of each refusal; with 41 both sets; the marking, which a walk's answer has not, is 0
unfoldable pub refused_by : WalkRefusal → Told
unfolding refused
refused_by Unloaded = refuse (fault 40 0)
refused_by (InNet why) = refused why
refused_by Full = refuse (fault 42 0)

-- and of each answer, 0 where the call is granted, whatever it hands back
unfoldable pub answer_of : {T : Type 0} → Result T WalkRefusal → Told
unfolding refused_by
answer_of (Ok x) = grant 0
answer_of (Err why) = refused_by why

-- the call is granted
unfoldable pub granted : Told → Bool
granted a = eqb a.found.number 0

-- ---- load

-- 1 (places), 2, 3 and 7; with none of them it is `grant 0`
unfoldable pub load_answer : ℕ → ℕ → List ℕ → Told
load_answer places m bytes = refuse (load_fault places m bytes)

-- the walk with its own copy of the net and the set for the marking, whatever was loaded before
unfoldable pub load_walk : Walk → ℕ → ℕ → List ℕ → Walk
load_walk w places m bytes = cond (granted (load_answer places m bytes)) (started_at (net_of places bytes) m) w

-- ---- fire

-- 40 nothing loaded; then 8; 41 transition not enabled, with both sets; 42 count at 65,535
unfoldable pub fire_answer : Walk → ℕ → Told
unfolding disabled
fire_answer w t =
    cond (loaded w)
    (cond (ltb t w.net.transitions)
    (cond (enabled w.net w.present t) (cond (ltb w.count 65535) (grant 0) (refuse (fault 42 0))) (disabled w.net w.present t))
    (refuse (fault 8 0)))
    (refuse (fault 40 0))

-- the marking after t, one more firing, and the set for that marking
unfoldable pub fire_walk : Walk → ℕ → Walk
fire_walk w t = cond (granted (fire_answer w t)) (moved_to w (fired w.net w.present t) (w.count + 1)) w

-- ---- reset and read

-- 40 nothing loaded
unfoldable pub loaded_answer : Walk → Told
loaded_answer w = cond (loaded w) (grant 0) (refuse (fault 40 0))

-- the start marking again, count 0, and the set for that marking
unfoldable pub reset_walk : Walk → Walk
reset_walk w = cond (granted (loaded_answer w)) (moved_to w w.start 0) w

-- a number of what is read; 0 where the call is refused
unfoldable pub told : (Reading → ℕ) → Result Reading WalkRefusal → ℕ
told f (Ok r) = f r
told f (Err why) = 0

-- the present marking; 0 where the call is refused
unfoldable pub read_marking : Walk → ℕ
read_marking w = cond (granted (loaded_answer w)) w.present 0

-- the count; 0 where the call is refused
unfoldable pub read_count : Walk → ℕ
read_count w = cond (granted (loaded_answer w)) w.count 0

-- the stored set, as it stands; 0 where the call is refused
unfoldable pub read_next : Walk → ℕ
read_next w = cond (granted (loaded_answer w)) w.next 0

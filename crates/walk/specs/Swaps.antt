-- The order of independent steps in one walk (document 02, F-9). Assumes nothing.
use Rattle.std.specs.Prelude.{ℕ, ◌+◌, ◌≤◌, ◌≡◌, true, false, List, length}
use Rattle.std.proofs.Math.Option.{some}
use Rattle.net.specs.Answer.{fault, refuse}
use Rattle.net.specs.Sequence.{after}
use Rattle.net.specs.Swaps.{Swapped}
use Rattle.walk.specs.declared.Walk.{Walk}
use Rattle.walk.specs.State.{loaded}
use Rattle.walk.specs.Calls.{fire_answer}
use Rattle.walk.specs.History.{fire_all, all_granted}

-- ts is a firing sequence from the present marking of w, and leads to e
abbrev pub Leads : Walk → List ℕ → ℕ → Type 0
Leads w ts e = after w.net w.present ts ≡ some e

-- firing ts and firing us come to the same, where both lead to e
pub record SameWalk (w : Walk) (ts us : List ℕ) (e : ℕ) : Type 0 where
  -- in a loaded walk all are granted; the count is up by their number, and the present marking is e
  pub granted : loaded w ≡ true → (all_granted w ts ≡ true) × (all_granted w us ≡ true)
  pub count : loaded w ≡ true → (fire_all w ts).count ≡ w.count + length ts
  pub present : loaded w ≡ true → (fire_all w ts).present ≡ e
  -- in one that is not loaded each answers 40, and the walk stays
  pub unloaded : loaded w ≡ false → ((t : ℕ) → fire_answer w t ≡ refuse (fault 40 0)) × (fire_all w ts ≡ w) × (fire_all w us ≡ w)
  -- the whole walk is equal: count, present marking and stored set too
  pub whole : fire_all w ts ≡ fire_all w us

-- of a walk in any condition and two lists that differ only by swaps of independent neighbours: where one is a firing sequence from its present
-- marking, and so the other is (`SwappedLead`), and the count before and their length add up to at most 65,535
unfoldable pub OrderFree : Type 0
OrderFree = (w : Walk) (ts us : List ℕ) (e : ℕ) → Swapped w.net ts us → Leads w ts e → w.count + length ts ≤ 65535 → SameWalk w ts us e

-- where some firings are refused, the walk is equal too
unfoldable pub RefusedToo : Type 0
RefusedToo = (w : Walk) (ts us : List ℕ) → Swapped w.net ts us → w.count + length ts ≤ 65535 → fire_all w ts ≡ fire_all w us

-- ---- a larger sum

-- where the sum is 65,535 or more, firing any firing sequence through a loaded walk ends at the count 65,535
unfoldable pub CountFull : Type 0
CountFull = (w : Walk) (ts : List ℕ) (e : ℕ) → loaded w ≡ true → Leads w ts e → 65535 ≤ w.count + length ts → (fire_all w ts).count ≡ 65535

-- but the markings may differ, since it is other firings that are refused with 42: so in some loaded walk, for two lists with a sum that is one too
-- large
unfoldable pub RoomNeeded : Type 0
RoomNeeded =
    (w : Walk) × (ts : List ℕ) × (us : List ℕ) × (e : ℕ) × (loaded w ≡ true) × Swapped w.net ts us × Leads w ts e
    × (w.count + length ts ≡ 65536) × ((fire_all w ts).present ≡ (fire_all w us).present → ⊥)

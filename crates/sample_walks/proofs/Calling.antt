-- Calls, one after the other. Assumes nothing.
use Prim.Native.Nat.{ℕ, ◌+◌}
use mathlib.Core.Path.{◌≡◌, sym, ap, ◌∙◌}
use mathlib.Core.List.{List}
use native.Mathlib.Numerals.{add-one}
use lib.ListN.{get_or, replicate}
use Rattle.net.specs.declared.Numbers.{Numbers}
use Rattle.net.specs.Answer.{Answer}
use Rattle.walk.specs.declared.Walk.{Walk}
use Rattle.walk.specs.History as history
use Rattle.walk.specs.Calls.{loaded_answer, read_marking, read_count, read_next}
use Rattle.walk.specs.History.{Call as Made, answered, called}
use Rattle.sample_walks.specs.declared.Call.{Call}
use Rattle.sample_walks.specs.declared.Call.TheVariants.{Fire}
use Rattle.sample_walks.specs.declared.Start.{Start}
use Rattle.sample_walks.specs.Samples.{started, call_of, call_at, called_to, after, told, seen}

-- what is answered and left by the call k is so by the one that makes it
pub by_call : (w v : Walk) (n : Call) (k : Made) (f : Answer) → call_of n ≡ k → f ≡ answered w k → v ≡ called w k
    → (f ≡ answered w (call_of n)) × (v ≡ called w (call_of n))
by_call w v n k f e a l = (a ∙ ap (answered w) (sym e), l ∙ ap (called w) (sym e))

-- one call more
pub next_call : (w₀ w next : Walk) (list : List Call) (n : Call) (i : ℕ) → n ≡ get_or list i (Fire 0) → next ≡ called w (call_of n) → w ≡ called_to w₀ list i
    → next ≡ called_to w₀ list (i + 1)
unfolding called_to call_at
next_call w₀ w next list n i c l e = rw (add-one, l, c, e)

-- all of them
pub all_calls : (s : Start) (w₀ w : Walk) (list : List Call) (i n : ℕ) → i ≡ n → w ≡ called_to w₀ list i → w₀ ≡ started s → w ≡ after s list n
unfolding after
all_calls s w₀ w list i n d e f = e ∙ rw (d, f)

-- ---- answers in numbers

-- these are the numbers of an answer
abbrev Numbered : Numbers → Answer → Type 0
Numbered r a =
    (r.number ≡ a.found.number) × (r.place ≡ a.found.place) × (r.marking ≡ a.marking) × (r.missing ≡ a.missing) × (r.occupied ≡ a.occupied)

-- what document 01's numbers of an answer are, where the answer is a
pub in_numbers : (r : Numbers) (g a : Answer) → Numbered r g → g ≡ a → r ≡ told a
unfolding told
in_numbers r g a n e = same ∙ ap told e
  where
    same : r ≡ told g
    same = λ i. record { number = n.0 i; place = n.1 i; marking = n.2 i; missing = n.3 i; occupied = n.4 i }

-- and of what is read
pub in_seen : (w : Walk) (r : Numbers) (g : Answer) (m k s : ℕ) → Numbered r g
    → (g ≡ loaded_answer w) × (m ≡ read_marking w) × (k ≡ read_count w) × (s ≡ read_next w)
    → record { number = r.number; place = r.place; marking = m; count = k; next = s } ≡ seen w
unfolding seen
in_seen w r g m k s n e =
    λ i.
    record {
      number = (n.0 ∙ ap (λ a. a.found.number) e.0) i;
      place = (n.1 ∙ ap (λ a. a.found.place) e.0) i;
      marking = e.1 i;
      count = e.2 i;
      next = e.3 i;
    }

-- the walk after n firings of transition 0
unfoldable pub often : Walk → ℕ → Walk
often w n = history.fire_all w (replicate n 0)

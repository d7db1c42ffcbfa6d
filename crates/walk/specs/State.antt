-- The walk as a value, as document 01 ("The walk") and document 02 (F-2) have it: the net that it carries, the set of the transitions enabled
-- at its present marking as it is stored, and when it is loaded. Assumes nothing.
use Rattle.std.specs.Prelude.{ℕ, ◌≡◌, Bool, ◌&&◌, replicate, leb}
use Rattle.tables.specs.Below.{every_below}
use Rattle.bitset.specs.Sets.{within}
use Rattle.net.specs.declared.Net.{Net}
use Rattle.net.specs.Step.{pre_of, post_of, next}
use Rattle.net.specs.Table.{places_good}
use Rattle.walk.specs.declared.Walk.{Walk}

-- a walk that carries the net N, started at the marking m: no firing yet
unfoldable pub started_at : Net → ℕ → Walk
started_at N m = record { net = N; start = m; present = m; count = 0; next = next N m }

-- the walk with another present marking and count, and the set of the transitions enabled there
unfoldable pub moved_to : Walk → (m n : ℕ) → Walk
moved_to w m n = record { net = w.net; start = w.start; present = m; count = n; next = next w.net m }

-- a new walk: all zero
unfoldable pub empty : Walk
empty =
    record {
      net = record { places = 0; transitions = 0; pre = replicate 64 0; post = replicate 64 0; action = replicate 64 0; optional = 0 };
      start = 0;
      present = 0;
      count = 0;
      next = 0;
    }

-- the walk with another stored number
unfoldable pub storing : Walk → ℕ → Walk
storing w n = record { net = w.net; start = w.start; present = w.present; count = w.count; next = n }

-- the walk with another set of optional transitions
unfoldable pub marked : Walk → ℕ → Walk
marked w n =
    record {
      net =
          record {
            places = w.net.places;
            transitions = w.net.transitions;
            pre = w.net.pre;
            post = w.net.post;
            action = w.net.action;
            optional = n;
          };
      start = w.start;
      present = w.present;
      count = w.count;
      next = w.next;
    }

-- the stored set is that of the transitions enabled at the present marking
abbrev pub StoresNext : Walk → Type 0
StoresNext w = w.next ≡ next w.net w.present

-- ---- loaded

-- the pre set and the post set of t lie within the places
unfoldable pub sets_within : Net → ℕ → Bool
sets_within N t = within N.places (pre_of N t) && within N.places (post_of N t)

-- the transitions are 1 to 64
unfoldable pub transitions_good : ℕ → Bool
transitions_good n = leb 1 n && leb n 64

-- the net of a walk would not meet 1, 2 or 3
unfoldable pub net_good : Net → Bool
net_good N = (places_good N.places && transitions_good N.transitions) && every_below (sets_within N) N.transitions

-- its markings would not meet 7, and its count is at most 65,535
unfoldable pub state_good : Walk → Bool
state_good w = within w.net.places w.start && within w.net.places w.present && leb w.count 65535

-- both; the stored set does not matter
unfoldable pub loaded : Walk → Bool
loaded w = net_good w.net && state_good w

-- Two nets side by side (document 02, F-8), their parallel composition: the second's places follow the first's, its transitions follow too,
-- actions and optional marks are kept. Assumes nothing.
use Rattle.std.specs.Prelude.{ℕ, ◌+◌, ◌*◌, List, ◌++◌, take, drop}
use Rattle.tables.specs.Lists.{laid}
use Rattle.bitset.specs.Sets.{union, shifted}
use Rattle.stores.specs.Low.{low_bytes}
use Rattle.net.specs.declared.Net.{Net}
use Rattle.net.specs.Table.{transition_size, pre_at, post_at, transitions, net_of}

-- a net with a marking as it is handed over: the places, the marking, the bytes of the transition records
pub record Marked : Type 0 where
  pub places : ℕ
  pub marking : ℕ
  pub bytes : List ℕ

abbrev pub marked : (places marking : ℕ) (bytes : List ℕ) → Marked
marked places marking bytes = record { places = places; marking = marking; bytes = bytes }

abbrev pub net_by : Marked → Net
net_by h = net_of h.places h.bytes

-- a marking of a first half that has so many places, and one of the second, as a marking of the joint net
unfoldable pub beside : (places first second : ℕ) → ℕ
beside places first second = union first (shifted places second)

-- record t of the second half: both sets shifted by the first's places, the other eight bytes as they are
unfoldable pub shifted_record : (places : ℕ) (bytes : List ℕ) (t : ℕ) → List ℕ
shifted_record places bytes t =
    low_bytes 8 (shifted places (pre_at bytes t))
    ++ (low_bytes 8 (shifted places (post_at bytes t)) ++ take 8 (drop (t * transition_size + 16) bytes))

-- the joint net with its marking
unfoldable pub joint : (first second : Marked) → Marked
joint f s =
    record {
      places = f.places + s.places;
      marking = beside f.places f.marking s.marking;
      bytes = f.bytes ++ laid (shifted_record f.places s.bytes) (transitions s.bytes);
    }

-- Little-endian numbers in a list of bytes. Assumes nothing.
use Rattle.std.specs.Prelude.{ℕ, zero, suc, ◌+◌, ◌*◌, List, get_or, drop}

-- the number that the first n bytes of l write, lowest byte first
unfoldable pub little : ℕ → List ℕ → ℕ
little zero l = 0
little (suc n) l = get_or l 0 0 + 256 * little n (drop 1 l)

-- the number in the n bytes of l from the offset at on
unfoldable pub field : ℕ → ℕ → List ℕ → ℕ
field n at l = little n (drop at l)

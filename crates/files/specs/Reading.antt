-- What reading a file leaves in a buffer. Assumes nothing.
use Rattle.std.specs.Prelude.{ℕ, ◌≡◌, ◌<◌, ◌≤◌, List, Option, Some, None, length, take}

-- `&xs[..n]` is in bounds and has n bytes. The second part follows from the first, and spares a caller's `&buf[..n]` a proof file.
abbrev pub IsPrefixLen : ℕ → List ℕ → Type 0
IsPrefixLen n xs = (n ≤ length xs) × (n ≡ length (take n xs))

-- a whole file is shorter than the buffer, and stands at its start
abbrev pub FileRead : List ℕ → Option ℕ → Type 0
FileRead l (Some n) = (n < length l) × IsPrefixLen n l
FileRead l None = Unit {0}

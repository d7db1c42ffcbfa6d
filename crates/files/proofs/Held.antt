-- What a read leaves in a buffer. Assumes nothing.
use mathlib.Core.Path.{sym}
use mathlib.Core.List.{List}
use Prim.Native.Nat.{ℕ, ◌<◌}
use native.Mathlib.Nat.{le_of_lt}
use lib.ListN.{length}
use lib.Seq.{length-take-le}
use Rattle.std.proofs.Common.{Some}
use Rattle.files.specs.Reading.{FileRead}

pub held : (l : List ℕ) (n : ℕ) → n < length l → FileRead l (Some n)
held l n h = (h, (le_of_lt h, sym (length-take-le n l (le_of_lt h))))

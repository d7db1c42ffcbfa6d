-- How many records of one size a table has. Assumes nothing.
use Rattle.std.specs.Prelude.{ℕ, ◌/◌, ◌%◌, Bool, cond, ◌&&◌, Option, Some, None, eqb, leb}

-- len bytes are at least `least` and at most `most` whole records of `size` bytes
unfoldable pub sized : (size least most len : ℕ) → Bool
sized size least most len = eqb (len % size) 0 && leb least (len / size) && leb (len / size) most

-- their number, where they are such records
unfoldable pub records_of : (size least most len : ℕ) → Option ℕ
records_of size least most len = cond (sized size least most len) (Some (len / size)) None

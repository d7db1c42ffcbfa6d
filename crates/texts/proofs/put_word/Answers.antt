-- `texts::put_word` meets its contract. Assumes nothing.
use mathlib.Core.Path.{refl}
use native.Mathlib.Omega.{arith}
use Rattle.texts.proofs.Buffers.{part_put}
use Rattle.texts.proofs.put_word.Goals as goal

pub returns : goal.returns
returns c =
    record {
      next = refl;
      room = c.requires;
      bytes = part_put _ _ _ _ _ c.copy_from_slice.ensures.after (omega arith) (omega (arith, c.fits-line, c.requires));
    }

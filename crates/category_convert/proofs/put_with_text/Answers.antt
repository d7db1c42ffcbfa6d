-- `category_convert::put_with_text` meets its contract. Assumes nothing.
use Rattle.category_convert.proofs.Written.{text_written}
use Rattle.category_convert.proofs.put_with_text.Goals as goal

pub returns : goal.returns
returns c =
    text_written
    c.args.file.now
    c.args.room.now
    c.args.i
    c.args.s
    c.requires.0
    c.copy.ensures
    c.put_bytes.ensures
    c.copy-2.ensures

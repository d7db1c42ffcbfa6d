-- `texts::put_unread` meets its contract. Assumes nothing.
use Rattle.texts.specs.Line.{unread_named}
use Rattle.texts.proofs.Line.{join}
use Rattle.texts.proofs.put_unread.Goals as goal

pub returns : goal.returns
unfolding unread_named
returns c = join (join c.put_word-at.ensures c.put_word-at-2.ensures) c.put_word.ensures

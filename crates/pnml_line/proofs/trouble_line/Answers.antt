-- `pnml_line::trouble_line` meets its contract. Assumes nothing.
use Rattle.pnml_line.specs.Line.{trouble_line}
use Rattle.pnml_line.proofs.trouble_line.Goals as goal

pub returns-in-UnreadAsk : goal.returns-in-UnreadAsk
unfolding trouble_line
returns-in-UnreadAsk c = simp c.in-UnreadAsk.is c.put_unread.ensures

pub returns-in-UnreadNet : goal.returns-in-UnreadNet
unfolding trouble_line
returns-in-UnreadNet c = simp c.in-UnreadNet.is c.put_unread-in-UnreadNet.ensures

pub returns-in-UnreadFile : goal.returns-in-UnreadFile
unfolding trouble_line
returns-in-UnreadFile c = simp c.in-UnreadFile.is c.put_unread-in-UnreadFile.ensures

pub returns-in-UnwrittenNet : goal.returns-in-UnwrittenNet
unfolding trouble_line
returns-in-UnwrittenNet c = simp c.in-UnwrittenNet.is c.put_word.ensures

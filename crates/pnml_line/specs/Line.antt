-- The answer of writing by an ask, and the lines that the program `pnml` writes (F-1 of document 02). Assumes nothing.
use Rattle.std.specs.Prelude.{ℕ, cond, List, [], ◌++◌, Result, eqb}
use Rattle.texts.specs.Text.{bytes, decimal}
use Rattle.texts.specs.Line.{placed_line, unread_named}
use Rattle.net.specs.Answer.{fault}
use Rattle.nodes.specs.Nodes.{ask_of}
use Rattle.checker.specs.Outcomes.{ask_good}
use Rattle.pnml_write.specs.declared.WriteRefusal.{WriteRefusal}
use Rattle.pnml_write.specs.Answer.{Answer, refuse, write_answer}
use Rattle.pnml_write.specs.Answer.{found_of as fault_of}
use Rattle.pnml_read.specs.declared.Found.{Found}
use Rattle.pnml_read.specs.declared.ReadRefusal.{ReadRefusal}
use Rattle.pnml_read.specs.Answer.{number_of, place_of, found_of}
use Rattle.pnml_line.specs.declared.Trouble.{Trouble}
use Rattle.pnml_line.specs.declared.Trouble.TheVariants.{UnreadAsk, UnreadNet, UnreadFile, UnwrittenNet}

-- 1 for an ask that is none; then what writing the net with the ask's places and marking answers
unfoldable pub ask_answer : (ask net room : List ℕ) → Answer
ask_answer ask net room = cond (ask_good ask) (write_answer (ask_of ask).places (ask_of ask).marking net room) (refuse (fault 1 0) room)

-- "refused C at R"
unfoldable pub refused_line : (number place : ℕ) → List ℕ
refused_line n p = placed_line (bytes "refused ") n p

-- the line of a write's answer: none where granted, since the text is written then
unfoldable pub write_line : Result ℕ WriteRefusal → List ℕ
write_line w = cond (eqb (fault_of w).number 0) [] (refused_line (fault_of w).number (fault_of w).place)

-- "places P marking M"
unfoldable pub found_line : (places marking : ℕ) → List ℕ
found_line p m = bytes "places " ++ decimal p ++ bytes " marking " ++ decimal m ++ bytes "\n"

-- the line of a read's answer
unfoldable pub read_line : Result Found ReadRefusal → List ℕ
read_line r = cond (eqb (number_of r) 0) (found_line (found_of r).places (found_of r).marking) (refused_line (number_of r) (place_of r))

-- the line of a file that cannot be read or written
unfoldable pub trouble_line : Trouble → List ℕ
trouble_line UnreadAsk = unread_named (bytes "ASK")
trouble_line UnreadNet = unread_named (bytes "NET")
trouble_line UnreadFile = unread_named (bytes "FILE")
trouble_line UnwrittenNet = bytes "unwritten NET\n"

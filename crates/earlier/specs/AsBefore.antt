-- What document 02's F-4 asks: "a net with all bytes 0 gets the answers it got". Assumes nothing.
use Rattle.std.specs.Prelude.{ℕ, ◌<◌, ◌≡◌, List, get_or}
use Rattle.net.specs.Step.{enabled, next, urgent, urgents}
use Rattle.net.specs.Table.{transitions, net_of}
use Rattle.net.specs.Answer.{load_fault, firing}
use Rattle.walk.specs.declared.Walk.{Walk}
use Rattle.walk.specs.Calls.{load_walk}
use Rattle.checker.specs.Outcomes.{check_outcome}
use Rattle.checker.specs.Demand.{AskClaim}
use Rattle.pnml_write.specs.Answer.{write_answer}
use Rattle.earlier.specs.Tables.{earlier_spare_at, earlier_load_fault, earlier_firing, earlier_load_walk}
use Rattle.earlier.specs.Check.{earlier_check_outcome, EarlierAskClaim}
use Rattle.earlier.specs.Text.{earlier_write_answer}

-- bytes 18 to 23 of every record are zero
unfoldable pub Unmarked : List ℕ → Type 0
Unmarked net = (t : ℕ) → t < transitions net → earlier_spare_at net t ≡ 0

-- the table gets from every function the answer that it got, whatever is handed over beside it
pub record AsBefore (net : List ℕ) : Type 0 where
  -- the urgent transitions are the enabled ones, and the urgent set is Next
  pub urgent_enabled : (places m t : ℕ) → urgent (net_of places net) m t ≡ enabled (net_of places net) m t
  pub urgents_next : (places m : ℕ) → urgents (net_of places net) m ≡ next (net_of places net) m
  -- what loading meets, the single firing, and the walk after a load; its other calls do not depend on the marks (`AnyMarks` of walk/specs/History)
  pub load : (places m : ℕ) → load_fault places m net ≡ earlier_load_fault places m net
  pub fire : (places m t : ℕ) → firing places m net t ≡ earlier_firing places m net t
  pub walk : (w : Walk) (places m : ℕ) → load_walk w places m net ≡ earlier_load_walk w places m net
  -- the check's answer, and the claim of an ask
  pub check : (ask F tree : List ℕ) → check_outcome ask net F tree ≡ earlier_check_outcome ask net F tree
  pub claim : (ask F : List ℕ) → AskClaim ask net F → EarlierAskClaim ask net F
  pub claimed : (ask F : List ℕ) → EarlierAskClaim ask net F → AskClaim ask net F
  -- the text that is written, of a list of bytes
  pub text : ((i : ℕ) → get_or net i 0 < 256) → (places m : ℕ) (room : List ℕ) → write_answer places m net room ≡ earlier_write_answer places m net room

-- for every table without marks
unfoldable pub AnswersStay : Type 0
unfolding Unmarked
AnswersStay = (net : List ℕ) → Unmarked net → AsBefore net

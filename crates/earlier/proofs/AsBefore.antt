-- Tables without marks get the answers that they got. Assumes nothing.
use mathlib.Core.Path.{◌≡◌, sym, subst}
use mathlib.Core.Bool.{false}
use mathlib.Core.List.{List}
use Prim.Native.Nat.{ℕ, ◌<◌}
use Rattle.bitset.specs.Sets.{member}
use Rattle.net.specs.declared.Net.{Net}
use Rattle.net.specs.Table.{net_of}
use Rattle.net.proofs.Urgent.{none_urgent, none_urgents}
use Rattle.pctl.specs.Meaning.{Claim}
use Rattle.nodes.specs.Nodes.{ask_of}
use Rattle.checker.specs.Outcomes.{net_for}
use Rattle.checker.specs.Demand.{AskClaim}
use Rattle.earlier.specs.Tables.{earlier_net_of}
use Rattle.earlier.specs.Check.{earlier_net_for, EarlierAskClaim}
use Rattle.earlier.specs.AsBefore.{Unmarked, AnswersStay}
use Rattle.earlier.proofs.Tables.{net_is, load_is, fire_is, walk_is}
use Rattle.earlier.proofs.Meaning.{claim_was, claim_is}
use Rattle.earlier.proofs.Check.{none_marked, check_is}
use Rattle.earlier.proofs.Text.{write_is}

module _ (net : List ℕ) (plain : Unmarked net) where
  none : (places t : ℕ) → t < (net_of places net).transitions → member (net_of places net).optional t ≡ false
  none places t =
      subst (λ (N : Net). t < N.transitions → member N.optional t ≡ false) (sym (net_is net plain places)) (none_marked places net t)

  was : (ask F : List ℕ) → AskClaim ask net F → EarlierAskClaim ask net F
  unfolding AskClaim EarlierAskClaim net_for earlier_net_for
  was ask F h =
      let P : ℕ = (ask_of ask).places in
      claim_was (earlier_net_of P net) (none_marked P net) F (ask_of ask).marking (ask_of ask).formula (ask_of ask).side
      (subst (λ N. Claim N F (ask_of ask).marking (ask_of ask).formula (ask_of ask).side) (net_is net plain P) h)

  is : (ask F : List ℕ) → EarlierAskClaim ask net F → AskClaim ask net F
  unfolding AskClaim EarlierAskClaim net_for earlier_net_for
  is ask F h =
      let P : ℕ = (ask_of ask).places in
      subst (λ N. Claim N F (ask_of ask).marking (ask_of ask).formula (ask_of ask).side) (sym (net_is net plain P))
      (claim_is (earlier_net_of P net) (none_marked P net) F (ask_of ask).marking (ask_of ask).formula (ask_of ask).side h)

pub answers_stay : AnswersStay
unfolding AnswersStay
answers_stay net plain =
    record {
      urgent_enabled = λ places. none_urgent (net_of places net) (none net plain places);
      urgents_next = λ places. none_urgents (net_of places net) (none net plain places);
      load = load_is net plain;
      fire = fire_is net plain;
      walk = walk_is net plain;
      check = λ ask F tree. check_is net plain ask F tree;
      claim = was net plain;
      claimed = is net plain;
      text = write_is net plain;
    }

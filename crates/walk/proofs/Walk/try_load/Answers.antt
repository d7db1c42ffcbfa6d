-- `walk::Walk::try_load` meets its contract. Assumes nothing.
use Rattle.std.proofs.lemmas.Result.{err_from_is_err_and}
use Rattle.net.specs.Answer.{checked}
use Rattle.net.proofs.Answers.{load_passed, load_plain, decoded_few}
use Rattle.walk.specs.Calls as calls
use Rattle.walk.proofs.Walks.{load_refused, load_granted}
use Rattle.walk.proofs.Walk.try_load.Goals as goal

pub returns-in_err-check_load : goal.returns-in_err-check_load
unfolding calls.refused_by calls.answer_of
returns-in_err-check_load c =
    let p = err_from_is_err_and c.from_residual.result c.from_residual.ensures.1 in
    rw (p.1, p.2) (load_refused c.args.self.now _ _ _ _ (load_plain _ _ _ _ c.in_err-check_load.ensures))

pub decode-net-requires : goal.decode-net-requires
unfolding checked
decode-net-requires c = (load_passed _ _ _ c.in_ok-check_load.ensures).1

pub next-next-requires : goal.next-next-requires
unfolding checked
next-next-requires c = decoded_few _ _ _ c.decode-net.ensures (load_passed _ _ _ c.in_ok-check_load.ensures).1

pub returns : goal.returns
unfolding checked calls.answer_of
returns c = load_granted _ _ _ _ _ _ c.in_ok-check_load.ensures c.decode-net.ensures c.next-next.ensures

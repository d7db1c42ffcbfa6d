-- `sample_walks::make` meets its contract. Assumes nothing.
use Rattle.std.proofs.Common.{ap}
use Rattle.walk.specs.History as history
use Rattle.sample_walks.specs.Samples.{call_of}
use Rattle.sample_walks.proofs.Calling.{by_call}
use Rattle.sample_walks.proofs.make.Goals as goal

pub returns-in-Fire : goal.returns-in-Fire
unfolding history.answered history.called call_of
returns-in-Fire c = by_call _ _ _ _ _ (ap call_of c.in-Fire.is) c.fire.ensures.0 c.fire.ensures.1

pub returns-in-Reset : goal.returns-in-Reset
unfolding history.answered history.called call_of
returns-in-Reset c = by_call _ _ _ _ _ (ap call_of c.in-Reset.is) c.reset.ensures.0 c.reset.ensures.1

pub returns-in-LoadR : goal.returns-in-LoadR
unfolding history.answered history.called call_of
returns-in-LoadR c = let net = c.net_r-net.ensures in
    by_call _ _ _ _ _ (ap call_of c.in-LoadR.is) (rw net at c.load.ensures.0) (rw net at c.load.ensures.1)

pub returns-in-LoadBeyond : goal.returns-in-LoadBeyond
unfolding history.answered history.called call_of
returns-in-LoadBeyond c = let net = c.net_r-net.ensures in
    by_call _ _ _ _ _ (ap call_of c.in-LoadBeyond.is) (rw net at c.load-in-LoadBeyond.ensures.0) (rw net at c.load-in-LoadBeyond.ensures.1)

pub returns-in-LoadForward : goal.returns-in-LoadForward
unfolding history.answered history.called call_of
returns-in-LoadForward c = let net = c.transition.ensures in
    by_call _ _ _ _ _ (ap call_of c.in-LoadForward.is) (rw net at c.load-in-LoadForward.ensures.0) (rw net at c.load-in-LoadForward.ensures.1)

pub returns-in-LoadOptional : goal.returns-in-LoadOptional
unfolding history.answered history.called call_of
returns-in-LoadOptional c = let net = c.net_optional.ensures in
    by_call _ _ _ _ _ (ap call_of c.in-LoadOptional.is) (rw net at c.load-in-LoadOptional.ensures.0) (rw net at c.load-in-LoadOptional.ensures.1)

pub returns-in-LoadThree : goal.returns-in-LoadThree
unfolding history.answered history.called call_of
returns-in-LoadThree c = let net = c.net_three.ensures in
    by_call _ _ _ _ _ (ap call_of c.in-LoadThree.is) (rw net at c.load-in-LoadThree.ensures.0) (rw net at c.load-in-LoadThree.ensures.1)

-- `ring::ink::ink_run` meets its contract.
use Rattle.ring.proofs.Tested.{running, runs_on}
use Rattle.ring.proofs.ink.ink_run.Goals as goal

pub loop-at-init : goal.loop-at-init
loop-at-init c = running _ _ _ _ _ _ c.requires.2

pub loop-at-preserved : goal.loop-at-preserved
loop-at-preserved c = runs_on c.loop-at-test.true c.loop-at.invariant

-- `ring::ink::ink_run` meets its contract.
use Rattle.ring.proofs.Tested.{Running}
use Rattle.ring.proofs.ink.ink_run.Given as goal

abbrev pub invariant-loop-at : goal.invariant-loop-at
invariant-loop-at l = Running l.pitch l.ink l.row l.from l.past l.initial.sheet l.sheet l.at

-- `fill::search::near` meets its contract.
use Rattle.fill.specs.Inner.{Ahead}
use Rattle.fill.proofs.search.near.Given as goal

abbrev pub invariant-loop-at : goal.invariant-loop-at
invariant-loop-at l = Ahead l.has l.ink l.from l.at l.sheet l.at

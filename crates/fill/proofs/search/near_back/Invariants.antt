-- `fill::search::near_back` meets its contract.
use Rattle.fill.specs.Inner.{Back}
use Rattle.fill.proofs.search.near_back.Given as goal

abbrev pub invariant-loop-before : goal.invariant-loop-before
invariant-loop-before l = Back l.ink l.before l.to l.sheet l.before

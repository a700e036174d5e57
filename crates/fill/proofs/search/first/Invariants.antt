-- `fill::search::first` meets its contract.
use Rattle.fill.proofs.Searching.{First}
use Rattle.fill.proofs.search.first.Given as goal

abbrev pub invariant-loop-i : goal.invariant-loop-i
invariant-loop-i l = First l.has l.ink l.at l.sheet l.i l.least

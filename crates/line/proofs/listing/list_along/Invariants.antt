-- `line::listing::list_along` meets its contract.
use Rattle.line.proofs.Along.{Running}
use Rattle.line.proofs.listing.list_along.Given as goal

abbrev pub invariant-loop-i : goal.invariant-loop-i
invariant-loop-i l = Running l.first l.up l.m l.l l.f l.initial.list l.list l.t l.i

-- `fill::search::first` meets its contract.
use mathlib.Core.Path.{◌≡◌}
use native.Mathlib.Omega.{arith}
use Rattle.fill.proofs.Searching.{first_ahead}
use Rattle.fill.proofs.search.first.Goals as goal

pub returns : goal.returns
returns c =
    let l = c.loop-i in
    let e : l.i ≡ 64 = omega arith in
    first_ahead (rw e at l.invariant)

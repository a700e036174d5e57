-- `fill::walk` meets its contract.
use Prim.Native.Nat.{◌+◌, ◌-◌, ◌*◌}
use Rattle.fill.specs.Inner.{opens, Walked}
use Rattle.fill.proofs.walk.Given as goal

abbrev pub invariant-loop-turn : goal.invariant-loop-turn
invariant-loop-turn l = Walked l.shape l.boundary l.column l.row l.turn l.initial.sheet l.initial.work l.sheet l.work l.tail

abbrev pub decreases-loop-turn : goal.decreases-loop-turn
decreases-loop-turn l = 2 * opens l.shape l.boundary l.initial.sheet + 1 - l.turn

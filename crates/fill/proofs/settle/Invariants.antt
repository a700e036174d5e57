-- `fill::settle` meets its contract.
use mathlib.Core.Path.{◌≡◌}
use Rattle.fill.specs.Inner.{total, Settled}
use Rattle.fill.proofs.settle.Given as goal

abbrev pub invariant-loop-piece : goal.invariant-loop-piece
invariant-loop-piece l = (l.cells ≡ total l.work l.piece-index) × Settled l.pitch l.ink l.work l.piece-index l.initial.sheet l.sheet

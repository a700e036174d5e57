-- `fill::ink::ink_few` meets its contract.
use Prim.Native.Nat.{◌+◌, ◌-◌, ◌≤◌}
use Rattle.fill.specs.Inner.{InkedRun}
use Rattle.fill.proofs.ink.ink_few.Given as goal

abbrev pub invariant-loop-i : goal.invariant-loop-i
invariant-loop-i l = InkedRun l.ink l.from (l.from + (l.i - (l.i - l.count))) l.initial.sheet l.sheet × (l.i ≤ 8)

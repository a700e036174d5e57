-- `ring::ink::ink_both` meets its contract.
use Rattle.ring.proofs.Tested.{ends_alone, sheet_ends, two_runs}
use native.Mathlib.Omega.{arith}
use mathlib.Core.Path.{refl}
use Prim.Native.Nat.{◌+◌, ◌-◌, ◌≤◌, ◌<◌}
use Rattle.ring.proofs.ink.ink_both.Goals as goal

pub returns-then-low-high : goal.returns-then-low-high
returns-then-low-high c =
    let a = c.args in
    let p = c.requires in
    two_runs a.shape a.ink a.row (a.column + 65536) a.low a.high _ _ _ p.2 a.column refl p.3
    c.ink_run.ensures c.ink_run-then-low-high.ensures

pub returns : goal.returns
returns c =
    let a = c.args in
    let p = c.requires in
    let l : a.column - a.high ≤ a.column - a.low = omega (arith, p.2) in
    let r : a.column + a.low ≤ a.column + a.high = omega (arith, p.2) in
    let w : a.column - a.low < a.shape.width = omega (arith, p.4) in
    two_runs a.shape a.ink a.row (a.column + 65536) a.low a.high _ _ _ p.2 a.column refl p.3
    (ends_alone a.shape a.ink a.row (a.column - a.high) (a.column - a.low) _ p.0 p.1 l w (omega (arith, c.if-low-high.false)))
    (ends_alone a.shape a.ink a.row (a.column + a.low) (a.column + a.high) _
    (sheet_ends a.shape a.ink a.row (a.column - a.high) (a.column - a.low) _ p.0 p.1 l w) p.1 r p.4 (omega (arith, c.if-low-high.false)))

-- `curve::join` meets its contract.
use Rattle.std.proofs.Common.{ℕ, ◌-◌, ◌^◌, ◌≤◌, List}
use Rattle.sheet.specs.declared.Cell.{Cell}
use Rattle.curve.proofs.Joining.{Begun, Joining, Pointed}
use Rattle.curve.proofs.join.Given as goal

-- of the control points the loop keeps no more than the way that it began with: it joins the points of each curve that this leads along
abbrev pub invariant-loop-left : goal.invariant-loop-left
invariant-loop-left l =
    (l._left ≤ 2 ^ l.s)
    × ((ps : List Cell) (before : List ℕ) → Begun ps l.s l.initial.way → Pointed l.shape l.ink ps l.s before l.initial.sheet l.initial.rectangle
    → Joining l.shape l.ink ps l.s before l.sheet l.way l.from l.rectangle (2 ^ l.s - l._left))

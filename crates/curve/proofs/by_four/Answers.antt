-- `curve::by_four` meets its contract.
use Rattle.std.proofs.Common.{[], ◌∷◌, refl, arith}
use Rattle.sheet.proofs.Limits.{LiftedCell, lifted_cell}
use Rattle.curve.proofs.Between.{each_in}
use Rattle.curve.proofs.Answers.{lifted_lead}
use Rattle.curve.proofs.by_four.Goals as goal
use Rattle.curve.proofs.by_four.Goals.{After-lift_cell-d}

-- the control points, lifted
lifted : (c : After-lift_cell-d) → let a = c.args in
    LiftedCell a.p0 c.lift_cell-a.result × LiftedCell a.p1 c.lift_cell-b.result
    × LiftedCell a.p2 c.lift_cell-c.result × LiftedCell a.p3 c.lift_cell-d.result
lifted c =
    let a = c.args in
    let inside = each_in (a.p0 ∷ a.p1 ∷ a.p2 ∷ a.p3 ∷ []) a.p0 c.requires.0 in (
      lifted_cell _ _ (inside 0 (omega arith)) c.lift_cell-a.ensures,
      lifted_cell _ _ (inside 1 (omega arith)) c.lift_cell-b.ensures,
      lifted_cell _ _ (inside 2 (omega arith)) c.lift_cell-c.ensures,
      lifted_cell _ _ (inside 3 (omega arith)) c.lift_cell-d.ensures,
    )

pub cubic-requires : goal.cubic-requires
cubic-requires c = let l = lifted c in (l.0.inside_x, l.1.inside_x, l.2.inside_x, l.3.inside_x, c.requires.1)

pub cubic-requires-2 : goal.cubic-requires-2
cubic-requires-2 c = let l = lifted (goal.at.cubic-requires-2 c).After-lift_cell-d in (l.0.inside_y, l.1.inside_y, l.2.inside_y, l.3.inside_y, c.requires.1)

pub returns : goal.returns
returns c =
    let l = lifted (goal.at.returns c).After-lift_cell-d in
    lifted_lead _ _ _ _ _ _ (λ t. l.0.stands t ∷ l.1.stands t ∷ l.2.stands t ∷ l.3.stands t ∷ []) c.cubic.ensures c.cubic-2.ensures refl

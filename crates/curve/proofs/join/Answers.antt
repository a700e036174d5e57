-- `curve::join` meets its contract.
use Rattle.std.proofs.Common.{◌≡◌, ℕ, ◌+◌, ◌-◌, ◌^◌, ◌≤◌, List, sym, ap, ◌∙◌, subst, arith}
use Rattle.sheet.specs.Sheet.{within_limits}
use Rattle.sheet.specs.Inner.{unmoved_cell}
use Rattle.sheet.specs.declared.Cell.{Cell}
use Rattle.curve.specs.Rule.{point_at}
use Rattle.curve.specs.Inner.{Leads}
use Rattle.curve.specs.declared.Way.{Way}
use Rattle.curve.proofs.Answers.{leads_next, spot_stands, way_divides}
use Rattle.curve.proofs.Between.{point_inside}
use Rattle.curve.proofs.Joining.{Begun, Joining, points, begins, turn, ends}
use Rattle.curve.proofs.join.Goals as goal
use Rattle.curve.proofs.join.Goals.{After-advanced-way, After-spot_of-from, After-way_of-way, At-loop-left, In-loop-left}

begun : (c : After-way_of-way) → let a = c.args in Begun a.points.now a.s c.way_of-way.result
begun c =
    let p = c.requires in
    record { some = omega (arith, p.1.0); few = p.1.1; inside = p.2; split = p.3; leads = c.way_of-way.ensures }

pub spot_of-from-requires : goal.spot_of-from-requires
spot_of-from-requires c =
    let b = begun c in
    way_divides _ b.some b.few _ 0 c.way_of-way.result b.leads b.split (omega arith) b.inside

-- where the loop begins, the first point is drawn
first_spot : (c : After-spot_of-from) (ps : List Cell) → Begun ps c.args.s c.way_of-way.result
    → unmoved_cell c.spot_of-from.result ≡ point_at ps (2 ^ c.args.s) 0
first_spot c ps b = ap unmoved_cell c.spot_of-from.ensures ∙ spot_stands ps b.some b.few _ 0 _ b.leads b.split (omega arith)

pub loop-left-init : goal.loop-left-init
loop-left-init c =
    let a = c.args in (
      omega (arith, c.pieces-count.ensures.0),
      λ ps before b g.
          begins a.shape a.ink ps a.s before _ c.way_of-way.result c.spot_of-from.result _ _ (omega (arith, c.pieces-count.ensures.0))
          g b.leads (first_spot (goal.at.loop-left-init c).After-spot_of-from ps b),
    )

pub advanced-way-requires : goal.advanced-way-requires
advanced-way-requires c = tt

-- how many pieces are joined
abbrev gone : At-loop-left → ℕ
gone c = 2 ^ c.args.s - c.loop-left._left

further : (c : After-advanced-way) (ps : List Cell) → let a = c.args in
    Begun ps a.s c.way_of-way.result → Leads ps a.s (gone (goal.at.spot_of-to-requires c).At-loop-left) c.loop-left.way → Leads ps a.s (gone (goal.at.spot_of-to-requires c).At-loop-left + 1) c.advanced-way.result
further c ps b g =
    let s = c.args.s in
    subst (λ (w : Way). Leads ps s (gone (goal.at.spot_of-to-requires c).At-loop-left + 1) w) (sym c.advanced-way.ensures) (leads_next ps b.some b.few s (gone (goal.at.spot_of-to-requires c).At-loop-left) c.loop-left.way g b.split)

begun_2 : (c : At-loop-left) → let a = c.args in Begun a.points.now a.s c.way_of-way.result
begun_2 c =
    let p = c.requires in
    record { some = omega (arith, p.1.0); few = p.1.1; inside = p.2; split = p.3; leads = c.way_of-way.ensures }

first_spot_2 : (c : At-loop-left) (ps : List Cell) → Begun ps c.args.s c.way_of-way.result
    → unmoved_cell c.spot_of-from.result ≡ point_at ps (2 ^ c.args.s) 0
first_spot_2 c ps b = ap unmoved_cell c.spot_of-from.ensures ∙ spot_stands ps b.some b.few _ 0 _ b.leads b.split (omega arith)

-- what the loop has joined
joined : (c : At-loop-left) → let l = c.loop-left in let a = c.args in
    Joining a.shape a.ink a.points.now a.s a.sheet.now l.sheet l.way l.from l.rectangle (gone c)
joined c =
    let b = begun_2 c in
    c.loop-left.invariant.1 c.args.points.now c.args.sheet.now b
    (points c.args.shape c.args.ink _ c.args.s _ _ c.spot_of-from.result _ _ c.requires.0 (first_spot_2 c _ b)
    c.ink_at.ensures c.none.ensures c.join_at-rectangle.ensures)

-- a turn goes one point further, and there is one
low : (c : In-loop-left) → gone (goal.at.advanced-way-requires c).At-loop-left + 1 ≤ 2 ^ c.args.s
low c = omega (arith, c.loop-left.invariant.0, c.loop-left-test.true)

pub spot_of-to-requires : goal.spot_of-to-requires
spot_of-to-requires c =
    let b = begun (goal.at.spot_of-to-requires c).After-way_of-way in
    way_divides _ b.some b.few _ _ c.advanced-way.result (further c _ b (joined (goal.at.spot_of-to-requires c).At-loop-left).leads) b.split (low (goal.at.spot_of-to-requires c).In-loop-left) b.inside

pub piece-rectangle-requires : goal.piece-rectangle-requires
piece-rectangle-requires c =
    let b = begun (goal.at.piece-rectangle-requires c).After-way_of-way in
    let g = joined (goal.at.piece-rectangle-requires c).At-loop-left in
    let e = ap unmoved_cell c.spot_of-to.ensures ∙ spot_stands _ b.some b.few _ _ _ (further (goal.at.piece-rectangle-requires c).After-advanced-way _ b g.leads) b.split (low (goal.at.piece-rectangle-requires c).In-loop-left) in
    record { sheet = g.sized; from_value = (ap within_limits g.from_is ∙ point_inside _ _ _ b.some g.low b.inside, ap within_limits e ∙ point_inside _ _ _ b.some (low (goal.at.piece-rectangle-requires c).In-loop-left) b.inside) }

pub loop-left-preserved : goal.loop-left-preserved
loop-left-preserved c =
    let a = c.args in
    let bound = c.loop-left.invariant.0 in (
      omega (arith, bound),
      λ ps before b p.
          let g = c.loop-left.invariant.1 ps before b p in
          let h = further (goal.at.loop-left-preserved c).After-advanced-way ps b g.leads in
          turn a.shape a.ink ps a.s before c.loop-left.sheet _ c.loop-left.way _ c.loop-left.from c.spot_of-to.result c.loop-left.rectangle _ (gone (goal.at.loop-left-preserved c).At-loop-left) _
          (omega (arith, bound, c.loop-left-test.true)) g (low (goal.at.loop-left-preserved c).In-loop-left) h
          (ap unmoved_cell c.spot_of-to.ensures ∙ spot_stands ps b.some b.few a.s _ _ h b.split (low (goal.at.loop-left-preserved c).In-loop-left)) c.piece-rectangle.ensures,
    )

pub returns : goal.returns
returns c =
    let a = c.args in
    let all_clauses = ends a.shape a.ink _ a.s a.sheet.now c.loop-left.sheet c.loop-left.way c.loop-left.from c.loop-left.rectangle (gone (goal.at.returns c).At-loop-left)
    (joined (goal.at.returns c).At-loop-left) (omega (arith, c.loop-left-test.false)) in
    record { sheet_after = all_clauses.0; value = all_clauses.1 }

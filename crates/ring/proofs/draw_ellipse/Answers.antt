-- `ring::draw_ellipse` meets its contract.
use mathlib.Core.Path.{◌≡◌, refl, sym}
use mathlib.Core.Bool.{true}
use Rattle.sheet.specs.Sheet.{within_limits, axes}
use Rattle.sheet.specs.declared.refusal.Refusal.TheVariants.{Coordinate, Radius}
use Rattle.sheet.proofs.Draws.{refuses}
use Rattle.sheet.proofs.Lent.{if_sheet_lem, is_sheet, sheet_refused}
use Rattle.sheet.proofs.Limits.{fits_sheet}
use Rattle.ring.specs.Draw.{ellipse_answer, ellipse_drawing}
use Rattle.ring.proofs.Answers.{ring_done, centred}
use Rattle.ring.proofs.draw_ellipse.Goals as goal
use Rattle.ring.proofs.draw_ellipse.Goals.{Else-not-are_axes, Else-not-in_limits}

pub returns-in_err-check : goal.returns-in_err-check
unfolding ellipse_answer
returns-in_err-check c =
    let a = c.args in
    sheet_refused (ellipse_drawing a.shape a.ink a.centre a.a a.b) _ _ _ _ _ refl c.in_err-check.ensures c.from_residual.ensures.1

-- what each test showed
pub returns-then-not-in_limits : goal.returns-then-not-in_limits
unfolding ellipse_answer
returns-then-not-in_limits c =
    let a = c.args in
    refuses (ellipse_drawing a.shape a.ink a.centre a.a a.b) _ Coordinate
    (simp (if_sheet_lem _ _ (is_sheet _ _ c.in_ok-check.ensures), sym c.if-not-in_limits.ensures))

inside : (c : Else-not-in_limits) → within_limits c.args.centre ≡ true
inside c = sym c.if-not-in_limits.ensures

pub returns-then-not-are_axes : goal.returns-then-not-are_axes
unfolding ellipse_answer
returns-then-not-are_axes c =
    let a = c.args in
    refuses (ellipse_drawing a.shape a.ink a.centre a.a a.b) _ Radius
    (simp (if_sheet_lem _ _ (is_sheet _ _ c.in_ok-check.ensures), inside (goal.at.returns-then-not-are_axes c).Else-not-in_limits, sym c.if-not-are_axes.ensures))

paired : (c : Else-not-are_axes) → let a = c.args in axes a.a a.b ≡ true
paired c = sym c.if-not-are_axes.ensures

pub ring_on-requires : goal.ring_on-requires
ring_on-requires c =
    let a = c.args in (
      fits_sheet _ _ (is_sheet _ _ c.in_ok-check.ensures),
      centred a.centre c.lift_cell-middle.result (inside (goal.at.ring_on-requires c).Else-not-in_limits) c.lift_cell-middle.ensures,
      paired (goal.at.ring_on-requires c).Else-not-are_axes,
    )

pub returns : goal.returns
returns c =
    let a = c.args in
    ring_done a.shape a.ink a.centre a.a a.b a.sheet.now _ _ _ (is_sheet _ _ c.in_ok-check.ensures) (inside (goal.at.returns c).Else-not-in_limits) (paired (goal.at.returns c).Else-not-are_axes)
    c.lift_cell-middle.ensures c.ring_on.ensures.sheet_after c.ring_on.ensures.value

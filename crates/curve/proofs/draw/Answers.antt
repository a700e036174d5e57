-- `curve::draw` meets its contract.
use Rattle.std.proofs.Common.{◌≡◌, true, sym, refl, ◌∙◌, leb-true}
use Rattle.sheet.specs.Sheet.{split}
use Rattle.sheet.specs.declared.refusal.Refusal.TheVariants.{Coordinate, Pieces}
use Rattle.sheet.proofs.Draws.{refuses}
use Rattle.sheet.proofs.Lent.{if_sheet_lem, is_sheet, sheet_refused}
use Rattle.sheet.proofs.Limits.{fits_sheet}
use Rattle.curve.specs.Draw.{all_within_limits, curve_answer, curve_drawing}
use Rattle.curve.proofs.Answers.{all_in, curve_done}
use Rattle.curve.proofs.draw.Goals as goal
use Rattle.curve.proofs.draw.Goals.{Else-not-in_limits, Else-not-is_split}

pub returns-in_err-check : goal.returns-in_err-check
unfolding curve_answer
returns-in_err-check c =
    let a = c.args in
    sheet_refused (curve_drawing a.shape a.ink a.points.now a.s) _ _ _ _ _ refl c.in_err-check.ensures c.from_residual.ensures.1

-- what each test showed
pub returns-then-not-in_limits : goal.returns-then-not-in_limits
unfolding curve_answer
returns-then-not-in_limits c =
    let a = c.args in
    refuses (curve_drawing a.shape a.ink a.points.now a.s) _ Coordinate (simp (if_sheet_lem _ _ (is_sheet _ _ c.in_ok-check.ensures), sym (all_in _) ∙ sym c.if-not-in_limits.ensures))

limited : (c : Else-not-in_limits) → all_within_limits c.args.points.now ≡ true
limited c = sym (all_in _) ∙ sym c.if-not-in_limits.ensures

pub returns-then-not-is_split : goal.returns-then-not-is_split
unfolding curve_answer
returns-then-not-is_split c =
    let a = c.args in
    refuses (curve_drawing a.shape a.ink a.points.now a.s) _ Pieces (simp (if_sheet_lem _ _ (is_sheet _ _ c.in_ok-check.ensures), limited (goal.at.returns-then-not-is_split c).Else-not-in_limits, sym c.if-not-is_split.ensures))

parted : (c : Else-not-is_split) → split c.args.s ≡ true
parted c = sym c.if-not-is_split.ensures

pub join-requires : goal.join-requires
join-requires c =
    let a = c.args in
    (fits_sheet a.shape a.sheet.now (is_sheet _ _ c.in_ok-check.ensures), c.requires, limited (goal.at.join-requires c).Else-not-in_limits, leb-true a.s 6 (parted (goal.at.join-requires c).Else-not-is_split))

pub returns : goal.returns
returns c =
    let a = c.args in
    curve_done a.shape a.ink _ a.s a.sheet.now _ _ (is_sheet _ _ c.in_ok-check.ensures) (limited (goal.at.returns c).Else-not-in_limits) (parted (goal.at.returns c).Else-not-is_split) c.join.ensures.sheet_after c.join.ensures.value

-- `curve::piece` meets its contract.
use Rattle.std.proofs.Common.{◌≡◌, ℕ, ◌≤◌, Bool, true, cond, List, length, sym, ap, ◌∙◌, arith}
use Rattle.laws.proofs.Tests.{halves}
use Rattle.sheet.specs.Sheet.{paint}
use Rattle.sheet.specs.Repaint.{join}
use Rattle.sheet.specs.Inner.{unmoved_cell, fits}
use Rattle.sheet.proofs.Limits.{sheet_fits}
use Rattle.line.specs.Rule.{long, on_line}
use Rattle.line.proofs.Answers.{spot_lifted, line_drawn, line_told_box}
use Rattle.line.proofs.Short.{short_on_lem}
use Rattle.line.proofs.Touching.{spots_touch}
use Rattle.curve.proofs.Adding.{near_adds, short_adds, part_adds}
use Rattle.curve.proofs.piece.Goals as goal
use Rattle.curve.proofs.piece.Goals.{Then-near, Else-draw_short}

pub near-requires : goal.near-requires
near-requires c =
    let from = spot_lifted c.args.from c.requires.from_value.0 in
    let to = spot_lifted c.args.to c.requires.from_value.1 in
    (omega (arith, from.inside_x.most), omega (arith, to.inside_x.most))

pub near-requires-2 : goal.near-requires-2
near-requires-2 c =
    let from = spot_lifted c.args.from c.requires.from_value.0 in
    let to = spot_lifted c.args.to c.requires.from_value.1 in
    (omega (arith, from.inside_y.most), omega (arith, to.inside_y.most))

-- what the test showed
touching : (c : Then-near) → let a = c.args in long (unmoved_cell a.from) (unmoved_cell a.to) ≤ 1
touching c =
    let a = c.args in
    let both = halves _ _ c.if-near.true in
    spots_touch a.from a.to (sym c.near.ensures ∙ both.0) (sym c.near-2.ensures ∙ both.1)

pub returns-then-near : goal.returns-then-near
returns-then-near c =
    let a = c.args in
    near_adds a.shape a.ink (unmoved_cell a.from) (unmoved_cell a.to) a.sheet.now _ a.rectangle _ c.requires.sheet (touching (goal.at.returns-then-near c).Then-near)
    c.ink_at.ensures c.join_at.ensures

pub returns-then-draw_short : goal.returns-then-draw_short
returns-then-draw_short c =
    let a = c.args in
    let s = a.sheet.now in
    let line = on_line (unmoved_cell a.from) (unmoved_cell a.to) in
    short_adds a.shape a.ink a.from a.to s _ a.rectangle _ c.requires.sheet (short_on_lem _ _ _ _ (sym c.draw_short.ensures.value ∙ c.if-draw_short.true))
    (c.draw_short.ensures.sheet_after ∙ ap (λ (t : Bool). cond t (paint a.shape a.ink line s) s) c.if-draw_short.true) c.join_at-then-draw_short.ensures

-- the short line that was not drawn leaves the sheet as it was
same : (c : Else-draw_short) → c.draw_short.new.sheet ≡ c.args.sheet.now
same c =
    let a = c.args in
    let s = a.sheet.now in
    c.draw_short.ensures.sheet_after ∙ ap (λ (t : Bool). cond t (paint a.shape a.ink (on_line (unmoved_cell a.from) (unmoved_cell a.to)) s) s) c.if-draw_short.false

fit : (c : Else-draw_short) → fits c.args.shape (length c.draw_short.new.sheet) ≡ true
fit c = ap (λ (u : List ℕ). fits c.args.shape (length u)) (same c) ∙ sheet_fits c.args.shape c.args.sheet.now c.requires.sheet

pub returns : goal.returns
returns c =
    let a = c.args in
    let k = a.shape in
    let from = unmoved_cell a.from in
    let to = unmoved_cell a.to in
    let at = (goal.at.returns c).Else-draw_short in
    let w = c.requires.from_value in
    let told = c.draw_between-drawn.ensures in
    part_adds k a.ink from to a.sheet.now _ a.rectangle _
    (line_drawn k from to a.ink _ _ _ (fit at) w.0 w.1 told ∙ ap (paint k a.ink (on_line from to)) (same at))
    (c.join.ensures ∙ ap (join a.rectangle) (c.rectangle_of.ensures ∙ line_told_box k from to a.ink _ _ _ (fit at) w.0 w.1 told))

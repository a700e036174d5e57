-- `line::draw::draw_between` meets its contract.
use Rattle.std.proofs.Common.{rules, ◌≡◌, ◌+◌, ◌-◌, true, ◌&&◌, length, sym, refl, ◌∙◌, ap₂, arith}
use Rattle.laws.proofs.Tests.{no, yes, halves}
use Rattle.sheet.specs.Sheet.{within_limits}
use Rattle.sheet.specs.Inner.{Sheet, unmoved_cell, fits}
use Rattle.sheet.specs.declared.refusal.Refusal.TheVariants.{Coordinate}
use Rattle.sheet.proofs.Draws.{refuses}
use Rattle.sheet.proofs.Lent.{if_sheet_lem, is_sheet, sheet_refused}
use Rattle.sheet.proofs.Limits.{fits_sheet, LiftedCell}
use Rattle.line.specs.Draw.{line_answer, line_drawing}
use Rattle.line.specs.Inner.Course.{Runs}
use Rattle.line.specs.Inner.Span.{On, Spans}
use Rattle.line.proofs.Answers.{spot_lifted, on_moved, on_limits, line_runs, line_done}
use Rattle.line.proofs.OnSheet.{on_of}
use Rattle.line.proofs.Spanned.{told_cells_lem}
use Rattle.line.proofs.Walking.{counted}
use Rattle.line.proofs.Whole.{course_whole, whole_box}
use Rattle.line.proofs.draw.draw_between.Goals as goal
use Rattle.line.proofs.draw.draw_between.Goals.{After-course_of-course, After-is_moved-2, After-are_on, Else-not-is_moved, Then-are_on}

pub returns-in_err-check : goal.returns-in_err-check
unfolding line_answer
returns-in_err-check c =
    let a = c.args in
    sheet_refused (line_drawing a.shape a.ink (unmoved_cell a.from) (unmoved_cell a.to)) _ _ _ _ _ refl c.in_err-check.ensures c.from_residual.ensures.1

-- what each test showed
fitted : (c : After-are_on) → let a = c.args in fits a.shape (length a.sheet.now) ≡ true
fitted c = is_sheet _ _ c.in_ok-check.ensures

lent : (c : After-are_on) → let a = c.args in Sheet a.shape a.sheet.now
lent c = let a = c.args in fits_sheet a.shape a.sheet.now (fitted c)

pub are_on-requires : goal.are_on-requires
are_on-requires c =
    let a = c.args in
    let k = fits_sheet a.shape a.sheet.now (is_sheet _ _ c.in_ok-check.ensures) in
    (k.wide, k.high)

-- both ends are on the sheet
ends_on : (c : After-course_of-course) → let a = c.args in On a.shape a.from × On a.shape a.to
ends_on c = let h = halves _ _ (sym c.are_on.ensures ∙ c.if-are_on.true) in (on_of _ _ h.0, on_of _ _ h.1)

fitted_2 : (c : After-course_of-course) → let a = c.args in fits a.shape (length a.sheet.now) ≡ true
fitted_2 c = is_sheet _ _ c.in_ok-check.ensures

lent_2 : (c : After-course_of-course) → let a = c.args in Sheet a.shape a.sheet.now
lent_2 c = let a = c.args in fits_sheet a.shape a.sheet.now (fitted_2 c)

within : (c : After-course_of-course) → let a = c.args in
    (within_limits (unmoved_cell a.from) ≡ true) × (within_limits (unmoved_cell a.to) ≡ true)
within c =
    let a = c.args in
    let o = ends_on c in
    let k = lent_2 c in
    (on_limits a.shape a.from k.wide k.high o.0, on_limits a.shape a.to k.wide k.high o.1)

runs_on : (c : After-course_of-course) → Runs c.course_of-course.result.path
runs_on c =
    let a = c.args in
    let w = within c in
    line_runs a.shape _ _ _ _ _ (spot_lifted a.from w.0) (spot_lifted a.to w.1) c.course_of-course.ensures

spanned : (c : After-course_of-course) → let a = c.args in
    let course = c.course_of-course.result.path in Spans a.shape course 0 (course.long + 1)
spanned c =
    let a = c.args in
    let o = ends_on c in
    course_whole a.shape _ a.from a.to c.course_of-course.ensures (runs_on c) o.0 o.1

pub invariant_of-sheet : goal.invariant_of-sheet
invariant_of-sheet c = record { fits = fits_sheet _ _ (is_sheet _ _ c.in_ok-check.ensures) }

pub invariant_of-sheet-2 : goal.invariant_of-sheet-2
invariant_of-sheet-2 c = record { fits = fits_sheet _ _ (is_sheet _ _ c.in_ok-check.ensures) }

pub whole_line-requires : goal.whole_line-requires
whole_line-requires c = spanned (goal.at.whole_line-requires c).After-course_of-course

ends_on_2 : (c : Then-are_on) → let a = c.args in On a.shape a.from × On a.shape a.to
ends_on_2 c = let h = halves _ _ (sym c.are_on.ensures ∙ c.if-are_on.true) in (on_of _ _ h.0, on_of _ _ h.1)

pub course_of-course-requires : goal.course_of-course-requires
course_of-course-requires c =
    let a = c.args in
    let o = ends_on_2 (goal.at.course_of-course-requires c).Then-are_on in
    let k = lent (goal.at.course_of-course-requires c).After-are_on in
    (on_moved a.shape a.from k.wide k.high o.0, on_moved a.shape a.to k.wide k.high o.1)

pub between-requires : goal.between-requires
between-requires c =
    let o = ends_on_2 (goal.at.between-requires c).Then-are_on in
    let k = lent (goal.at.between-requires c).After-are_on in record { le_x = (o.0.left, o.0.top, o.1.left, o.1.top); x_bound = (omega (arith, o.0.right, k.wide), omega (arith, o.0.bottom, k.high), omega (arith, o.1.right, k.wide), omega (arith, o.1.bottom, k.high)) }

fitted_3 : (c : Then-are_on) → let a = c.args in fits a.shape (length a.sheet.now) ≡ true
fitted_3 c = is_sheet _ _ c.in_ok-check.ensures

lent_3 : (c : Then-are_on) → let a = c.args in Sheet a.shape a.sheet.now
lent_3 c = let a = c.args in fits_sheet a.shape a.sheet.now (fitted_3 c)

within_2 : (c : Then-are_on) → let a = c.args in
    (within_limits (unmoved_cell a.from) ≡ true) × (within_limits (unmoved_cell a.to) ≡ true)
within_2 c =
    let a = c.args in
    let o = ends_on_2 c in
    let k = lent_3 c in
    (on_limits a.shape a.from k.wide k.high o.0, on_limits a.shape a.to k.wide k.high o.1)

pub returns-then-are_on : goal.returns-then-are_on
returns-then-are_on c =
    let a = c.args in
    let k = lent (goal.at.returns-then-are_on c).After-are_on in
    let w = within_2 (goal.at.returns-then-are_on c).Then-are_on in
    let o = ends_on_2 (goal.at.returns-then-are_on c).Then-are_on in
    let course = c.course_of-course.result.path in
    let n : course.long + 1 ≡ course.long + 1 - 0 = omega arith in
    let box = whole_box a.shape k.wide k.high course a.from a.to c.course_of-course.ensures (runs_on (goal.at.returns-then-are_on c).After-course_of-course) o.0 o.1 in
    line_done a.shape _ _ _ _ _ (spot_lifted a.from w.0) (spot_lifted a.to w.1) c.course_of-course.ensures
    a.ink _ a.sheet.now _ (fitted (goal.at.returns-then-are_on c).After-are_on) (ap₂ ◌&&◌ w.0 w.1)
    (told_cells_lem a.shape _ _ _ (n ∙ counted a.shape k.disjoint course (runs_on (goal.at.returns-then-are_on c).After-course_of-course) 0 (course.long + 1) (spanned (goal.at.returns-then-are_on c).After-course_of-course) (omega arith)) (c.between.ensures ∙ sym box))
    (search rules)

-- or within the limits
moved : (c : After-is_moved-2) → let a = c.args in
    (c.is_moved.result && c.is_moved-2.result) ≡ (within_limits (unmoved_cell a.from) && within_limits (unmoved_cell a.to))
moved c = λ t. c.is_moved.ensures t && c.is_moved-2.ensures t

pub returns-then-not-is_moved : goal.returns-then-not-is_moved
unfolding line_answer
returns-then-not-is_moved c =
    let a = c.args in
    refuses (line_drawing a.shape a.ink (unmoved_cell a.from) (unmoved_cell a.to)) _ Coordinate (simp (if_sheet_lem _ _ (fitted (goal.at.returns-then-not-is_moved c).After-are_on), no _ _ (moved (goal.at.returns-then-not-is_moved c).After-is_moved-2) c.if-not-is_moved.true-raw))

moved_2 : (c : Else-not-is_moved) → let a = c.args in
    (c.is_moved.result && c.is_moved-2.result) ≡ (within_limits (unmoved_cell a.from) && within_limits (unmoved_cell a.to))
moved_2 c = λ t. c.is_moved.ensures t && c.is_moved-2.ensures t

inside : (c : Else-not-is_moved) → let a = c.args in
    (within_limits (unmoved_cell a.from) && within_limits (unmoved_cell a.to)) ≡ true
inside c = yes _ _ (moved_2 c) c.if-not-is_moved.false-raw

lifted : (c : Else-not-is_moved) → let a = c.args in
    LiftedCell (unmoved_cell a.from) a.from × LiftedCell (unmoved_cell a.to) a.to
lifted c =
    let h = halves _ _ (inside c) in
    (spot_lifted _ h.0, spot_lifted _ h.1)

pub course_of-requires : goal.course_of-requires
course_of-requires c =
    let l = lifted (goal.at.course_of-requires c).Else-not-is_moved in
    (record { x = l.0.inside_x; y = l.0.inside_y }, record { x = l.1.inside_x; y = l.1.inside_y })

pub returns : goal.returns
returns c =
    let a = c.args in
    let l = lifted (goal.at.returns c).Else-not-is_moved in
    line_done a.shape _ _ _ _ _ l.0 l.1 c.course_of.ensures
    a.ink _ a.sheet.now _ (fitted (goal.at.returns c).After-are_on) (inside (goal.at.returns c).Else-not-is_moved) c.run.ensures.result_value (search rules)

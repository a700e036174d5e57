-- `line::draw::draw_short` meets its contract.
use Rattle.std.proofs.Common.{rules, ◌≡◌, ◌+◌, ◌<◌, true, ◌&&◌, ltb, length, sym, refl, ap, ◌∙◌, arith, ltb-true}
use Rattle.laws.proofs.Tests.{no, yes, halves}
use Rattle.sheet.specs.Sheet.{within_limits}
use Rattle.sheet.specs.Inner.{Sheet, unmoved_cell, fits}
use Rattle.sheet.proofs.Lent.{passed_sheet, failed_sheet}
use Rattle.sheet.proofs.Limits.{fits_sheet}
use Rattle.line.specs.declared.Path.{Path}
use Rattle.line.specs.Rule.{long}
use Rattle.line.specs.Inner.Course.{Runs}
use Rattle.line.specs.Inner.Span.{On, Spans}
use Rattle.line.proofs.Answers.{spot_lifted, on_moved, on_limits, line_runs, line_painted}
use Rattle.line.proofs.Bridge.{course_long}
use Rattle.line.proofs.OnSheet.{on_of}
use Rattle.line.proofs.Rise.{rise_start}
use Rattle.line.proofs.Short.{short_sheet, short_ends, short_length, short_asked}
use Rattle.line.proofs.Whole.{course_whole}
use Rattle.line.proofs.draw.draw_short.Goals as goal
use Rattle.line.proofs.draw.draw_short.Goals.{After-course_of-course, Else-not-are_on, Else-is_err, Else-not-long}

pub returns-then-is_err : goal.returns-then-is_err
returns-then-is_err c =
    record { value = sym (short_sheet _ _ _ _ (failed_sheet _ _ _ c.check.ensures c.if-is_err.ensures.value)); sheet_after = refl }

-- what each test showed
fitted : (c : Else-is_err) → let a = c.args in fits a.shape (length a.sheet.now) ≡ true
fitted c = passed_sheet _ _ _ c.check.ensures c.if-is_err.ensures.value

lent : (c : Else-is_err) → let a = c.args in Sheet a.shape a.sheet.now
lent c = let a = c.args in fits_sheet a.shape a.sheet.now (fitted c)

pub are_on-requires : goal.are_on-requires
are_on-requires c = let k = lent c in (k.wide, k.high)

pub returns-then-not-are_on : goal.returns-then-not-are_on
returns-then-not-are_on c = record { value = sym (short_ends _ _ _ _ (no _ _ c.are_on.ensures c.if-not-are_on.true-raw)); sheet_after = refl }

pub course_of-course-requires : goal.course_of-course-requires
course_of-course-requires c =
    let a = c.args in
    let h = halves _ _ (sym c.if-not-are_on.ensures) in
    let k = lent (goal.at.course_of-course-requires c).Else-is_err in
    (on_moved a.shape a.from k.wide k.high (on_of _ _ h.0), on_moved a.shape a.to k.wide k.high (on_of _ _ h.1))

-- both ends are on the sheet
ends_on : (c : After-course_of-course) → let a = c.args in On a.shape a.from × On a.shape a.to
ends_on c = let h = halves _ _ (yes _ _ c.are_on.ensures c.if-not-are_on.false-raw) in (on_of _ _ h.0, on_of _ _ h.1)

fitted_2 : (c : After-course_of-course) → let a = c.args in fits a.shape (length a.sheet.now) ≡ true
fitted_2 c = passed_sheet _ _ _ c.check.ensures c.if-is_err.ensures.value

lent_2 : (c : After-course_of-course) → let a = c.args in Sheet a.shape a.sheet.now
lent_2 c = let a = c.args in fits_sheet a.shape a.sheet.now (fitted_2 c)

within : (c : After-course_of-course) → let a = c.args in (within_limits (unmoved_cell a.from) ≡ true) × (within_limits (unmoved_cell a.to) ≡ true)
within c =
    let a = c.args in
    let o = ends_on c in
    let k = lent_2 c in
    (on_limits a.shape a.from k.wide k.high o.0, on_limits a.shape a.to k.wide k.high o.1)

-- the code's test of its length
both_long : (c : After-course_of-course) → let a = c.args in
    let l = c.course_of-course.result.path.long in let L = long (unmoved_cell a.from) (unmoved_cell a.to) in (ltb 0 l && ltb l 128) ≡ (ltb 0 L && ltb L 128)
both_long c =
    let a = c.args in
    let w = within c in
    let e = ap (λ (d : Path). d.long) c.course_of-course.ensures ∙ course_long _ _ a.from a.to (spot_lifted a.from w.0) (spot_lifted a.to w.1) in
    λ i. ltb 0 (e i) && ltb (e i) 128

pub returns-then-not-long : goal.returns-then-not-long
returns-then-not-long c = record { value = sym (short_length _ _ _ _ (no _ _ (both_long (goal.at.returns-then-not-long c).After-course_of-course) c.if-not-long.true-raw)); sheet_after = refl }

runs_on : (c : After-course_of-course) → Runs c.course_of-course.result.path
runs_on c =
    let a = c.args in
    let w = within c in
    line_runs a.shape _ _ _ _ _ (spot_lifted a.from w.0) (spot_lifted a.to w.1) c.course_of-course.ensures

spanned : (c : After-course_of-course) → let course = c.course_of-course.result.path in Spans c.args.shape course 0 (course.long + 1)
spanned c =
    let a = c.args in
    let o = ends_on c in
    course_whole a.shape _ a.from a.to c.course_of-course.ensures (runs_on c) o.0 o.1

pub byte_at-at-requires : goal.byte_at-at-requires
byte_at-at-requires c =
    let course = c.course_of-course.result.path in
    (omega arith, sym (rise_start course.long course.short), (spanned (goal.at.byte_at-at-requires c).After-course_of-course).on 0 (omega arith) (omega arith))

pub invariant_of-sheet : goal.invariant_of-sheet
invariant_of-sheet c = record { fits = lent (goal.at.invariant_of-sheet c).Else-is_err }

short : (c : Else-not-long) → let course = c.course_of-course.result.path in (0 < course.long) × (course.long < 128)
short c = let h = halves _ _ (yes _ _ refl c.if-not-long.false-raw) in (ltb-true _ _ h.0, ltb-true _ _ h.1)

pub short_slope-slope-requires : goal.short_slope-slope-requires
short_slope-slope-requires c =
    let l = short (goal.at.short_slope-slope-requires c).Else-not-long in
    (l.0, l.1, (runs_on (goal.at.short_slope-slope-requires c).After-course_of-course).shorter)

pub walk-requires : goal.walk-requires
walk-requires c =
    record { first_lt_past = (omega arith, spanned (goal.at.walk-requires c).After-course_of-course, c.short_slope-slope.ensures, c.byte_at-at.ensures) }

ends_on_2 : (c : Else-not-are_on) → let a = c.args in On a.shape a.from × On a.shape a.to
ends_on_2 c = let h = halves _ _ (yes _ _ c.are_on.ensures c.if-not-are_on.false-raw) in (on_of _ _ h.0, on_of _ _ h.1)

fitted_3 : (c : Else-not-are_on) → let a = c.args in fits a.shape (length a.sheet.now) ≡ true
fitted_3 c = passed_sheet _ _ _ c.check.ensures c.if-is_err.ensures.value

lent_3 : (c : Else-not-are_on) → let a = c.args in Sheet a.shape a.sheet.now
lent_3 c = let a = c.args in fits_sheet a.shape a.sheet.now (fitted_3 c)

within_2 : (c : Else-not-are_on) → let a = c.args in (within_limits (unmoved_cell a.from) ≡ true) × (within_limits (unmoved_cell a.to) ≡ true)
within_2 c =
    let a = c.args in
    let o = ends_on_2 c in
    let k = lent_3 c in
    (on_limits a.shape a.from k.wide k.high o.0, on_limits a.shape a.to k.wide k.high o.1)

pub returns : goal.returns
returns c =
    let a = c.args in
    let w = within_2 (goal.at.returns c).Else-not-are_on in record { value = sym (short_asked _ _ _ _ (fitted (goal.at.returns c).Else-is_err) (yes _ _ c.are_on.ensures c.if-not-are_on.false-raw) (yes _ _ (both_long (goal.at.returns c).After-course_of-course) c.if-not-long.false-raw)); sheet_after = line_painted a.shape _ _ _ _ _ (spot_lifted a.from w.0) (spot_lifted a.to w.1) c.course_of-course.ensures a.ink _ _ (search rules) }

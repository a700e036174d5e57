-- `line::pen::Pen::next` meets its contract.
use Rattle.std.proofs.Common.{◌≤◌, ◌∙◌, sym, arith}
use Rattle.line.specs.Rule.{long}
use Rattle.line.specs.declared.pen.Pen.{Pen}
use Rattle.line.proofs.Pens.{Takes, spots_moved, Courses, courses, has_cell_lem, out_of_limits, past_last, finishes, answers}
use Rattle.line.proofs.pen.Pen.next.Goals as goal
use Rattle.line.proofs.pen.Pen.next.Goals.{After-course_of-course}

pub returns-then-not-in_limits : goal.returns-then-not-in_limits
returns-then-not-in_limits c = let p = c.args.self in finishes p (out_of_limits p (sym c.if-not-in_limits.ensures))

pub course_of-course-requires : goal.course_of-course-requires
course_of-course-requires c = let p = c.args.self in spots_moved p.from p.to (sym c.if-not-in_limits.ensures) _ _ c.lift_cell-a.ensures c.lift_cell-b.ensures

-- where the course is known: the pen that was asked, and what the course is to it
abbrev asked : (c : After-course_of-course) → Pen
asked c = c.args.self

taken : (c : After-course_of-course) → Takes (asked c).from (asked c).to
taken c = sym c.if-not-in_limits.ensures

course : (c : After-course_of-course) → Courses (asked c).from (asked c).to c.lift_cell-a.result c.lift_cell-b.result c.course_of-course.result.path
course c = courses _ _ _ _ _ (taken c) c.lift_cell-a.ensures c.lift_cell-b.ensures c.course_of-course.ensures

pub returns-then-course-told : goal.returns-then-course-told
returns-then-course-told c = finishes (asked (goal.at.returns-then-course-told c).After-course_of-course) (past_last (asked (goal.at.returns-then-course-told c).After-course_of-course) (taken (goal.at.returns-then-course-told c).After-course_of-course) (omega (arith, (course (goal.at.returns-then-course-told c).After-course_of-course).steps, c.if-course-told.true)))

pub cell_at-cell-requires : goal.cell_at-cell-requires
cell_at-cell-requires c = omega (arith, c.if-course-told.false)

pub overflow_add-result : goal.overflow_add-result
overflow_add-result c =
    omega (arith, (course (goal.at.overflow_add-result c).After-course_of-course).runs.limit, c.if-course-told.false)

pub returns : goal.returns
returns c =
    let l : (asked (goal.at.returns c).After-course_of-course).told ≤ long (asked (goal.at.returns c).After-course_of-course).from (asked (goal.at.returns c).After-course_of-course).to = omega (arith, (course (goal.at.returns c).After-course_of-course).steps, c.if-course-told.false) in
    answers (asked (goal.at.returns c).After-course_of-course) c.cell_at-cell.result (has_cell_lem (asked (goal.at.returns c).After-course_of-course) (taken (goal.at.returns c).After-course_of-course) l) (c.cell_at-cell.ensures ∙ (course (goal.at.returns c).After-course_of-course).cells _ c.is_lesser.ensures (asked (goal.at.returns c).After-course_of-course).told l)

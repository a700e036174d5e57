-- `line::listing::list_line` meets its contract.
use Rattle.std.proofs.Common.{length, sym}
use Rattle.laws.proofs.Tests.{no, yes}
use Rattle.line.specs.Inner.Course.{Runs}
use Rattle.line.proofs.ListReplies.{rooms, list_coordinate, runs, list_room, list_done}
use Rattle.line.proofs.Pens.{spots_moved}
use Rattle.line.proofs.listing.list_line.Goals as goal
use Rattle.line.proofs.listing.list_line.Goals.{After-course_of-course}

pub returns-then-not-in_limits : goal.returns-then-not-in_limits
returns-then-not-in_limits c =
    let a = c.args in
    list_coordinate a.from a.to a.xs.now a.ys.now (no _ _ c.in_limits.ensures c.if-not-in_limits.true-raw)

pub returns-then-not-has_room : goal.returns-then-not-has_room
returns-then-not-has_room c =
    let a = c.args in
    list_room a.from a.to c.lift_cell-a.result c.lift_cell-b.result c.course_of-course.result.path
    (yes _ _ c.in_limits.ensures c.if-not-in_limits.false-raw) c.lift_cell-a.ensures c.lift_cell-b.ensures c.course_of-course.ensures
    a.xs.now a.ys.now (no _ _ c.has_room.ensures c.if-not-has_room.true-raw)

-- the course of a line within the limits
runs_at : (c : After-course_of-course) → Runs c.course_of-course.result.path
runs_at c =
    let a = c.args in
    runs a.from a.to c.lift_cell-a.result c.lift_cell-b.result c.course_of-course.result.path
    (yes _ _ c.in_limits.ensures c.if-not-in_limits.false-raw) c.lift_cell-a.ensures c.lift_cell-b.ensures c.course_of-course.ensures

pub list_course-requires : goal.list_course-requires
list_course-requires c =
    let a = c.args in
    let room = rooms c.course_of-course.result.path.long (length a.xs.now) (length a.ys.now) (yes _ _ c.has_room.ensures c.if-not-has_room.false-raw) in
    room

pub course_of-course-requires : goal.course_of-course-requires
course_of-course-requires c = let a = c.args in spots_moved a.from a.to (sym c.if-not-in_limits.ensures) _ _ c.lift_cell-a.ensures c.lift_cell-b.ensures

pub returns : goal.returns
returns c =
    let a = c.args in
    list_done a.from a.to c.lift_cell-a.result c.lift_cell-b.result c.course_of-course.result.path
    (yes _ _ c.in_limits.ensures c.if-not-in_limits.false-raw) c.lift_cell-a.ensures c.lift_cell-b.ensures c.course_of-course.ensures
    a.xs.now a.ys.now _ _ c.is_lesser.result (yes _ _ c.has_room.ensures c.if-not-has_room.false-raw) c.is_lesser.ensures
    c.list_course.ensures.0 c.list_course.ensures.1

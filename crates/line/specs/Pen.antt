-- Document 01, "Lines": the pen.
use Rattle.std.specs.Prelude.{◌+◌, Bool, cond, ◌&&◌, List, [], ◌∷◌, ◌++◌, drop, ℤ, pos, nat_le, Option, Some, None}
use Rattle.sheet.specs.Sheet.{within_limits}
use Rattle.sheet.specs.Reply.{Answer, done, unless}
use Rattle.sheet.specs.Figure.{cell_values}
use Rattle.sheet.specs.declared.Cell.{Cell}
use Rattle.sheet.specs.declared.refusal.Refusal.TheVariants.{Coordinate}
use Rattle.line.specs.Rule.{long}
use Rattle.line.specs.Listing.{listed, listing}
use Rattle.line.specs.declared.pen.Pen.{Pen}

-- the values that tell a pen
abbrev pub pen_values : Pen → List ℤ
pen_values p = cell_values p.from ++ cell_values p.to ++ pos p.told ∷ []

-- what is told of a beginning: 0 with the pen; of an asking 0 with the cell and the pen moved on; of a lent pen's 0 with the cell
abbrev pub pen_answer : Pen → Answer
pen_answer p = done (pen_values p)

abbrev pub step_answer : Cell × Pen → Answer
step_answer (c, p) = done (cell_values c ++ pen_values p)

abbrev pub cell_answer : Cell → Answer
cell_answer c = done (cell_values c)

-- A pen is begun from two ends and refuses as number 2.
abbrev pub fresh : Cell → Cell → Pen
fresh a b = record { from = a; to = b; told = 0 }

unfoldable pub begin_answer : Cell → Cell → Answer
begin_answer a b = unless (within_limits a && within_limits b) Coordinate (done (pen_values (fresh a b)))

-- whether a state is one that beginning and asking leads to, with a cell left
unfoldable pub has_cell : Pen → Bool
has_cell p = (within_limits p.from && within_limits p.to) && nat_le p.told (long p.from p.to)

-- the next cell of the listing, and the pen moved on
abbrev pub next_cell : Pen → Cell
next_cell p = listed p.from p.to p.told

abbrev pub moved_on : Pen → Pen
moved_on p = record { from = p.from; to = p.to; told = p.told + 1 }

-- Asked for a cell, the pen answers the next cell of the listing and the pen moved on. After the last, and in any other state, it answers "finished".
unfoldable pub next_answer : Pen → Answer
next_answer p = done (cond (has_cell p) (cell_values (next_cell p) ++ pen_values (moved_on p)) [])

-- The pen is lent by the caller ..
unfoldable pub ask_answer : Pen → Answer
ask_answer p = done (cond (has_cell p) (cell_values (next_cell p)) [])

-- .. and left standing one cell further; where it answers "finished", it stays the same.
unfoldable pub left : Pen → Pen
left p = cond (has_cell p) (moved_on p) p

-- the pen after a step, which was p before
abbrev pub kept_of : Option (Cell × Pen) → Pen → Pen
kept_of (Some (c, q)) p = q
kept_of None p = p

-- the cells that it has left: those of the listing after the ones that it has answered
unfoldable pub cells_left : Pen → List Cell
cells_left p = cond (within_limits p.from && within_limits p.to) (drop p.told (listing p.from p.to)) []

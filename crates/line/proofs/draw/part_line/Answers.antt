-- `line::draw::part_line` meets its contract.
use Rattle.std.proofs.Common.{◌≡◌, ℕ, ◌-◌, ◌/◌, ◌%◌, ◌≤◌, ap, ◌∙◌, arith}
use Rattle.line.specs.Inner.Fixed.{tally}
use Rattle.line.proofs.Fixed.{tally_is, tally_rise, tally_climbs}
use Rattle.line.proofs.draw.part_line.Goals as goal
use Rattle.line.proofs.draw.part_line.Goals.{After-tally_at, After-tally_at-t}

-- what the steps to the first cell come to
tallied : (c : After-tally_at-t) → let a = c.args in c.tally_at-t.result ≡ tally a.course.path.long a.course.path.short a.first
tallied c =
    let a = c.args in
    tally_is a.course.path.long a.course.path.short a.first _ _ c.gradient_of-by.ensures c.tally_at-t.ensures.0

pub byte_at-at-requires : goal.byte_at-at-requires
byte_at-at-requires c =
    let a = c.args in
    let r = a.course.runs in
    let range = c.requires.first_lt_past.1 in
    let u : a.first ≤ a.course.path.long = omega (arith, range.low) in
    let q = c.whole-q.ensures ∙ ap (λ (z : ℕ). z / 4294967296) (tallied (goal.at.byte_at-at-requires c).After-tally_at-t) ∙ tally_rise a.course.path.long a.course.path.short a.first r.shorter r.limit u in
    (u, q, range.on a.first (omega arith) (omega arith))

pub walk-requires : goal.walk-requires
walk-requires c =
    let a = c.args in
    let r = a.course.runs in
    let range = c.requires.first_lt_past.1 in
    let climbs = tally_climbs a.course.path.long a.course.path.short a.first r.shorter r.limit (omega (arith, range.low)) in
    let e : c.part.result ≡ tally a.course.path.long a.course.path.short a.first % 4294967296 = c.part.ensures ∙ ap (λ (z : ℕ). z % 4294967296) (tallied (goal.at.walk-requires c).After-tally_at-t) in
    record { first_lt_past = (c.requires.first_lt_past.0, range, rw (e, c.gradient_of-by.ensures) climbs, c.byte_at-at.ensures) }

-- the steps to the last cell
last_tallied : (c : After-tally_at) → let a = c.args in
    c.tally_at.result ≡ tally a.course.path.long a.course.path.short (a.past - 1)
last_tallied c =
    let a = c.args in
    tally_is a.course.path.long a.course.path.short (a.past - 1) _ _ c.gradient_of-by.ensures c.tally_at.ensures.0

pub spot_of-end-requires : goal.spot_of-end-requires
spot_of-end-requires c =
    let a = c.args in
    let r = a.course.runs in
    let u : a.past - 1 ≤ a.course.path.long = omega (arith, c.requires.first_lt_past.1.low) in
    (u, c.whole.ensures ∙ ap (λ (z : ℕ). z / 4294967296) (last_tallied (goal.at.spot_of-end-requires c).After-tally_at) ∙ tally_rise a.course.path.long a.course.path.short (a.past - 1) r.shorter r.limit u)

pub spot_of-requires : goal.spot_of-requires
spot_of-requires c =
    let a = c.args in
    let r = a.course.runs in
    let u : a.first ≤ a.course.path.long = omega (arith, c.requires.first_lt_past.1.low, c.requires.first_lt_past.0) in
    (u, c.whole-q.ensures ∙ ap (λ (z : ℕ). z / 4294967296) (tallied (goal.at.spot_of-requires c).After-tally_at-t) ∙ tally_rise a.course.path.long a.course.path.short a.first r.shorter r.limit u)

pub between-requires : goal.between-requires
between-requires c =
    let a = c.args in
    let k = a.sheet.now.fits in
    let range = c.requires.first_lt_past.1 in
    let o = range.on a.first (omega arith) c.requires.first_lt_past.0 in
    let u = range.on (a.past - 1) (omega (arith, c.requires.first_lt_past.0)) (omega (arith, c.requires.first_lt_past.0)) in
    record {
      le_x = rw (c.spot_of.ensures, c.spot_of-end.ensures) (o.left, o.top, u.left, u.top);
      x_bound = rw (c.spot_of.ensures, c.spot_of-end.ensures) (omega (arith, o.right, k.wide), omega (arith, o.bottom, k.high), omega (arith, u.right, k.wide), omega (arith, u.bottom, k.high));
    }

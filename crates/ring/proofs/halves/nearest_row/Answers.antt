-- `ring::halves::nearest_row` meets its contract.
use Rattle.ring.proofs.Seen.{near_all, near_found}
use mathlib.Core.Path.{refl, ap, ◌∙◌}
use Prim.Native.Nat.{max}
use Rattle.ring.proofs.halves.nearest_row.Goals as goal

pub returns-then-a-past : goal.returns-then-a-past
returns-then-a-past c =
    let a = c.args in
    let p = c.requires in
    near_all a.ring p.0 a.from a.to a.from p.1 p.2 c.if-a-past.true refl

pub returns : goal.returns
returns c =
    let a = c.args in
    let p = c.requires in
    near_found a.ring p.0 a.from a.to _ p.1 p.2 _ c.halved-front.ensures
    (c.max.ensures ∙ ap (max a.from) c.row_end.ensures)

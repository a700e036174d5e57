-- `ring::placed` meets its contract.
use Rattle.ring.proofs.Lying.{placing, placing_whole}
use mathlib.Core.Path.{ap, ap₂, ◌∙◌}
use Prim.Native.Nat.{min, max}
use Rattle.ring.proofs.placed.Goals as goal

pub returns-then-a-x : goal.returns-then-a-x
returns-then-a-x c =
    let a = c.args in
    let q = c.requires in
    placing_whole a.shape a.centre a.a a.b q.0 q.1 q.3 q.4 c.if-a-x.true

pub returns : goal.returns
returns c =
    let a = c.args in
    let q = c.requires in
    placing a.shape a.centre a.a a.b q.0 q.1 q.3 q.4 _ _
    (c.max.ensures ∙ ap₂ max c.saturating_sub.ensures c.saturating_sub-2.ensures)
    (c.min.ensures ∙ ap (min a.a) (c.max-2.ensures ∙ ap₂ max c.saturating_sub-3.ensures c.saturating_sub-4.ensures))

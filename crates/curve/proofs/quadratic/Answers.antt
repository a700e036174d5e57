-- `curve::quadratic` meets its contract.
use Rattle.std.proofs.Common.{[], ◌∷◌}
use Rattle.sheet.specs.Inner.{unmoved}
use Rattle.curve.specs.Inner.{Gives}
use Rattle.curve.proofs.Sums.{quadratic_terms, three_give}
use Rattle.curve.proofs.quadratic.Goals as goal
use Rattle.curve.proofs.quadratic.Goals.{After-pieces-n}

gives : (c : After-pieces-n) → let a = c.args in Gives (unmoved a.p ∷ unmoved a.q ∷ unmoved a.r ∷ []) a.s (quadratic_terms a.p a.q a.r c.pieces-n.result)
gives c = let p = c.requires in three_give _ _ _ _ _ p.0 p.1 p.2 c.pieces-n.ensures.0 c.pieces-n.ensures.1

pub returns : goal.returns
returns c = record { terms = _; gives = gives (goal.at.returns c).After-pieces-n; walks = c.begin.ensures }

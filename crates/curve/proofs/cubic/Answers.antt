-- `curve::cubic` meets its contract.
use Rattle.std.proofs.Common.{[], ◌∷◌}
use Rattle.sheet.specs.Inner.{unmoved}
use Rattle.curve.specs.Inner.{Gives}
use Rattle.curve.proofs.Sums.{cubic_terms, Products, products, four_give}
use Rattle.curve.proofs.cubic.Goals as goal
use Rattle.curve.proofs.cubic.Goals.{After-pieces-n}

-- the products are small
small : (c : After-pieces-n) → let a = c.args in Products c.pieces-n.result a.p a.q a.r
small c = let p = c.requires in products _ _ _ _ c.pieces-n.ensures.1 p.0 p.1 p.2

gives : (c : After-pieces-n) → let a = c.args in
    Gives (unmoved a.p ∷ unmoved a.q ∷ unmoved a.r ∷ unmoved a.t ∷ []) a.s (cubic_terms a.p a.q a.r a.t c.pieces-n.result)
gives c = let p = c.requires in four_give _ _ _ _ _ _ p.0 p.1 p.2 p.3 c.pieces-n.ensures.0 c.pieces-n.ensures.1

pub begin-requires : goal.begin-requires
begin-requires c = (gives c).small

pub returns : goal.returns
returns c = record { terms = _; gives = gives (goal.at.returns c).After-pieces-n; walks = c.begin.ensures }

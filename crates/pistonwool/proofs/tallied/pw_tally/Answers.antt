-- `pistonwool::tallied::pw_tally` meets its contract.
use mathlib.Core.Path.{sym, ap, ◌∙◌}
use Rattle.pistonwool.specs.Told.{numbered}
use Rattle.pistonwool.proofs.Listed.{by_number, places_number}
use Rattle.pistonwool.proofs.Told.{test_number}
use Rattle.pistonwool.proofs.tallied.pw_tally.Goals as goal

pub returns : goal.returns
returns c =
    let C = c.count.ensures in
    record { tells = ap numbered (c.number_of.ensures ∙ test_number _) ∙ sym (places_number _ _ _ _ C.tells) ∙ C.tells; counts = by_number _ _ _ _ _ _ C.counts (c.number_of.ensures ∙ test_number _) }

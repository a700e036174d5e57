-- `tally::list::check_places` meets its contract.
use mathlib.Core.Path.{◌≡◌, sym, ◌∙◌}
use mathlib.Core.Bool.{true}
use borrow.Author.Tests.{ne_eqb}
use Rattle.sheet.specs.Inner.{fits}
use Rattle.sheet.specs.Reply.{test_answer}
use Rattle.sheet.proofs.Lent.{if_sheet_lem, no_sheet, is_sheet, told_err}
use Rattle.tally.specs.Tally.{if_places}
use Rattle.tally.proofs.Tests.{if_places_lem}
use Rattle.tally.proofs.list.check_places.Goals as goal
use Rattle.tally.proofs.list.check_places.Goals.{In_ok-check}

pub returns-in_err-check : goal.returns-in_err-check
unfolding if_places
returns-in_err-check c = told_err test_answer _ _ c.from_residual.ensures.1 ∙ sym (no_sheet _ _ _ c.in_err-check.ensures _)

-- what the first test showed
fitted : (c : In_ok-check) → let a = c.args in fits a.shape a.bytes ≡ true
fitted c = is_sheet _ _ c.in_ok-check.ensures

pub returns-then-places-shape : goal.returns-then-places-shape
unfolding if_places
returns-then-places-shape c = sym (simp (if_sheet_lem _ _ (fitted (goal.at.returns-then-places-shape c).In_ok-check), ne_eqb _ _ c.if-places-shape.true))

pub returns : goal.returns
returns c = sym (if_places_lem _ _ _ (fitted (goal.at.returns c).In_ok-check) c.if-places-shape.false _)

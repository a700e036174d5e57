-- `tally::list::check` meets its contract.
use mathlib.Core.Path.{◌≡◌, sym, ap, ◌∙◌}
use mathlib.Core.List.{[]}
use mathlib.Core.Bool.{Bool, true}
use lib.ListN.{length}
use Rattle.laws.proofs.Tests.{no, yes}
use Rattle.sheet.specs.Inner.{fits}
use Rattle.sheet.specs.Reply.{done, test_answer, unless}
use Rattle.sheet.specs.declared.refusal.Refusal.TheVariants.{Tally}
use Rattle.sheet.proofs.Lent.{told_err}
use Rattle.sheet.proofs.Limits.{fits_sheet}
use Rattle.tally.specs.Tally.{if_tally}
use Rattle.tally.proofs.Tests.{if_places_lem, no_places, is_places}
use Rattle.tally.proofs.list.check.Goals as goal
use Rattle.tally.proofs.list.check.Goals.{In_ok-check_places}

pub returns-in_err-check_places : goal.returns-in_err-check_places
unfolding if_tally
returns-in_err-check_places c = told_err test_answer _ _ c.from_residual.ensures.1 ∙ sym (no_places _ _ _ _ c.in_err-check_places.ensures _)

-- what the first tests showed
fitted : (c : In_ok-check_places) → let a = c.args in
    (fits a.shape (length a.sheet.now) ≡ true) × (length a.rows.now ≡ a.shape.height)
fitted c = is_places _ _ _ c.in_ok-check_places.ensures

pub is_right-requires : goal.is_right-requires
is_right-requires c = let f = fitted (goal.at.is_right-requires c).In_ok-check_places in record { sheet = fits_sheet _ _ f.0; places = f.1 }

pub returns-then-not-is_right : goal.returns-then-not-is_right
unfolding if_tally
returns-then-not-is_right c =
    let f = fitted (goal.at.returns-then-not-is_right c).In_ok-check_places in
    sym (if_places_lem _ _ _ f.0 f.1 _ ∙ ap (λ (t : Bool). unless t Tally (done [])) (no _ _ c.is_right.ensures c.if-not-is_right.true-raw))

pub returns : goal.returns
unfolding if_tally
returns c =
    let f = fitted (goal.at.returns c).In_ok-check_places in
    sym (if_places_lem _ _ _ f.0 f.1 _ ∙ ap (λ (t : Bool). unless t Tally (done [])) (yes _ _ c.is_right.ensures c.if-not-is_right.false-raw))

-- `tally::list::count` meets its contract.
use mathlib.Core.Path.{◌≡◌, sym, ◌∙◌}
use mathlib.Core.Bool.{true}
use native.Mathlib.Omega.{arith}
use lib.ListN.{length}
use Rattle.sheet.specs.Inner.{fits}
use Rattle.sheet.specs.Reply.{test_answer}
use Rattle.sheet.proofs.Lent.{told_err}
use Rattle.sheet.proofs.Limits.{fits_sheet}
use Rattle.tally.proofs.Rows.{counted_all}
use Rattle.tally.proofs.Tests.{if_places_lem, no_places, is_places, list_stays}
use Rattle.tally.proofs.list.count.Goals as goal
use Rattle.tally.proofs.list.count.Goals.{In_ok-check_places}

pub returns-in_err-check_places : goal.returns-in_err-check_places
returns-in_err-check_places c =
    let e = c.from_residual.ensures.1 in
    record {
      tells = told_err test_answer _ _ e ∙ sym (no_places _ _ _ _ c.in_err-check_places.ensures _);
      counts = list_stays test_answer _ _ _ _ _ e;
    }

-- what the tests showed
fitted : (c : In_ok-check_places) → let a = c.args in
    (fits a.shape (length a.sheet.now) ≡ true) × (length a.rows.now ≡ a.shape.height)
fitted c = is_places _ _ _ c.in_ok-check_places.ensures

pub count_rows-requires : goal.count_rows-requires
count_rows-requires c =
    let f = fitted (goal.at.count_rows-requires c).In_ok-check_places in
    record { beside = record { sheet = fits_sheet _ _ f.0; places = f.1 }; to_le_height = omega arith }

pub returns : goal.returns
returns c =
    let a = c.args in
    let f = fitted (goal.at.returns c).In_ok-check_places in
    record {
      tells = sym (if_places_lem _ _ _ f.0 f.1 _);
      counts = c.count_rows.ensures ∙ counted_all a.shape _ _ f.1;
    }

-- `tally::territory::fill` meets its contract.
use Rattle.sheet.specs.Reply.{count_answer}
use Rattle.sheet.proofs.Lent.{told_err}
use Rattle.tally.proofs.Beside.{Listed, no_list, is_list, fill_list_refused, fill_beside, fill_rows, may_count, counted_rows_lem}
use Rattle.tally.proofs.territory.fill.Goals as goal
use Rattle.tally.proofs.territory.fill.Goals.{In_ok-check}

pub returns-in_err-check-clause-fills_as : goal.returns-in_err-check-clause-fills_as
returns-in_err-check-clause-fills_as c =
    rw (told_err count_answer _ _ c.from_residual.ensures.1) (fill_list_refused c.args.rows.now _ (no_list _ _ _ _ c.in_err-check.ensures))

-- what the test showed
listed : (c : In_ok-check) → let a = c.args in Listed a.shape a.sheet.now a.rows.now
listed c = is_list _ _ _ c.in_ok-check.ensures

pub returns-in_err-filled-clause-fills_as : goal.returns-in_err-filled-clause-fills_as
returns-in_err-filled-clause-fills_as c =
    let l = listed (goal.at.returns-in_err-filled-clause-fills_as c).In_ok-check in
    rw (told_err count_answer _ _ c.from_residual-in_err-filled.ensures.1) (fill_beside l c.in_err-filled.ensures.fills_rows.fills)

pub count_rows-requires : goal.count_rows-requires
count_rows-requires c =
    let F = c.in_ok-filled.ensures.fills_rows in
    let all_clauses = may_count _ _ _ _ _ F.fills.draws (listed (goal.at.count_rows-requires c).In_ok-check) _ _ (fill_rows F) in
    record { beside = all_clauses.0; to_le_height = all_clauses.1 }

pub returns-clause-fills_as : goal.returns-clause-fills_as
returns-clause-fills_as c = fill_beside (listed (goal.at.returns-clause-fills_as c).In_ok-check) c.in_ok-filled.ensures.fills_rows.fills

pub returns-clause-rows_after : goal.returns-clause-rows_after
returns-clause-rows_after c =
    let F = c.in_ok-filled.ensures.fills_rows in
    counted_rows_lem _ _ _ _ _ F.fills.draws (listed (goal.at.returns-clause-rows_after c).In_ok-check) _ _ (fill_rows F) _ c.count_rows.ensures

-- `fill::fill_pieces` meets its contract.
use Prim.Native.Nat.{◌<◌}
use mathlib.Core.Path.{◌≡◌, refl, ◌∙◌}
use mathlib.Core.Bool.{true, not}
use lib.Dec.{eqb}
use lib.IntN.{pos}
use native.Mathlib.Omega.{arith}
use borrow.Author.Tests.{le-leb, lt-leb}
use lib.ListN.{length, get_or}
use Rattle.std.proofs.Common.{Err, w32, to_z, of_z, rules}
use Rattle.sheet.specs.Sheet.{place}
use Rattle.sheet.specs.Inner.{fits}
use Rattle.sheet.specs.declared.Cell.{Cell}
use Rattle.sheet.proofs.Count.{cells_area}
use Rattle.sheet.proofs.Lent.{if_sheet_lem, no_sheet, is_sheet}
use Rattle.sheet.proofs.Limits.{fits_sheet}
use Rattle.sheet.specs.declared.refusal.Refusal.TheVariants.{Work, Start}
use Rattle.fill.specs.Fill.{fill_answer}
use Rattle.fill.specs.Inner.{index_of, opens}
use Rattle.fill.proofs.Filling.{index_found, off_column, off_row, none_of, some_of, pieces_refused, pieces_done}
use Rattle.fill.proofs.fill_pieces.Goals as goal
use Rattle.fill.proofs.fill_pieces.Goals.{In_ok-check, After-index, After-index-2, In_ok-row}

pub returns-in_err-check-clause-fills_pieces : goal.returns-in_err-check-clause-fills_pieces
unfolding fill_answer
returns-in_err-check-clause-fills_pieces c =
    pieces_refused _ _ c.from_residual.ensures.1 (no_sheet _ _ _ c.in_err-check.ensures _)

-- what the first test showed
fitted : (c : In_ok-check) → let a = c.args in fits a.shape (length a.sheet.now) ≡ true
fitted c = is_sheet _ _ c.in_ok-check.ensures

pub returns-then-work-shape-clause-fills_pieces : goal.returns-then-work-shape-clause-fills_pieces
unfolding fill_answer
returns-then-work-shape-clause-fills_pieces c =
    pieces_refused (Err Work) Work refl (simp (if_sheet_lem _ _ (fitted (goal.at.returns-then-work-shape-clause-fills_pieces c).In_ok-check), lt-leb _ _ c.if-work-shape.true))

-- the start's column and row
column : (c : After-index) → let a = c.args in c.index.result ≡ index_of a.start.x a.shape.width
column c =
    let e : to_z w32 (of_z w32 c.args.start.x) ≡ c.args.start.x = search rules in
    rw e at c.index.ensures

row : (c : After-index-2) → let a = c.args in c.index-2.result ≡ index_of a.start.y a.shape.height
row c =
    let e : to_z w32 (of_z w32 c.args.start.y) ≡ c.args.start.y = search rules in
    rw e at c.index-2.ensures

pub returns-in_err-column-clause-fills_pieces : goal.returns-in_err-column-clause-fills_pieces
unfolding fill_answer
returns-in_err-column-clause-fills_pieces c =
    let p = goal.at.returns-in_err-column-clause-fills_pieces c in
    let n = none_of _ _ _ c.in_err-column.ensures.value in
    pieces_refused _ Start (rw n.1 c.from_residual-in_err-column.ensures.1)
    (simp (if_sheet_lem _ _ (fitted p.In_ok-check), le-leb _ _ c.if-work-shape.false, off_column c.args.shape c.args.start (n.0 ∙ column p.After-index)))

pub returns-in_err-row-clause-fills_pieces : goal.returns-in_err-row-clause-fills_pieces
unfolding fill_answer
returns-in_err-row-clause-fills_pieces c =
    let p = goal.at.returns-in_err-row-clause-fills_pieces c in
    let n = none_of _ _ _ c.in_err-row.ensures.value in
    pieces_refused _ Start (rw n.1 c.from_residual-in_err-row.ensures.1)
    (simp (if_sheet_lem _ _ (fitted p.In_ok-check), le-leb _ _ c.if-work-shape.false, off_row c.args.shape c.args.start (n.0 ∙ row p.After-index-2)))

-- the start is a cell of the sheet
started : (c : In_ok-row) → let a = c.args in
    ((a.start.x ≡ pos c.in_ok-column.column) × (c.in_ok-column.column < a.shape.width)) × ((a.start.y ≡ pos c.in_ok-row.row) × (c.in_ok-row.row < a.shape.height))
started c = (
  index_found _ _ _ (some_of _ _ _ c.in_ok-column.ensures.value ∙ column (goal.at.In_ok-row c).After-index),
  index_found _ _ _ (some_of _ _ _ c.in_ok-row.ensures.value ∙ row (goal.at.In_ok-row c).After-index-2),
)

pub flood-requires-clause-ready : goal.flood-requires-clause-ready
unfolding opens
flood-requires-clause-ready c =
    let a = c.args in
    let z = fits_sheet a.shape a.sheet.now (fitted (goal.at.flood-requires-clause-ready c).In_ok-check) in
    record { sheet = z; room = omega (arith, cells_area (λ (d : Cell). not (eqb (get_or a.sheet.now (place a.shape d) 0) a.boundary)) a.shape z.disjoint, c.if-work-shape.false) }

pub flood-requires-clause-row_lt_height : goal.flood-requires-clause-row_lt_height
flood-requires-clause-row_lt_height c = let s = started (goal.at.flood-requires-clause-row_lt_height c).In_ok-row in (s.1.1, s.0.1)

pub returns-clause-fills_pieces : goal.returns-clause-fills_pieces
returns-clause-fills_pieces c =
    let p = goal.at.returns-clause-fills_pieces c in
    let s = started p.In_ok-row in
    pieces_done (fitted p.In_ok-check) c.if-work-shape.false s.0.1 s.1.1 (λ i. record { x = s.0.0 i; y = s.1.0 i }) c.flood.ensures.flooded_in c.flood.ensures.pieces_in_bounds

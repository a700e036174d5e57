-- `print::text::text` meets its contract.
use mathlib.Core.Path.{refl, sym}
use native.Mathlib.Omega.{arith}
use Rattle.sheet.proofs.Unique.{number_not_0}
use Rattle.print.specs.Text.{picture, refusal, too_long}
use Rattle.print.proofs.Lines.{picture_long}
use Rattle.print.proofs.Told.{text_too_long, text_drawn, text_refused, prints}
use Rattle.laws.proofs.Written.{write_first}
use Rattle.print.proofs.text.text.Goals as goal

pub returns-then-file-gt4096 : goal.returns-then-file-gt4096
returns-then-file-gt4096 c =
    let a = c.args in
    let all_clauses = prints a.file.now too_long a.out.now _ c.put.result
    (text_too_long a.file.now c.if-file-gt4096.true)
    (write_first a.out.now too_long _ c.put.result c.put.ensures.out_after c.put.ensures.value)
    (omega (arith, c.put.ensures.value, c.well_formed)) in
    record { value = all_clauses.0; out_after = all_clauses.1 }

pub returns-in-Ok : goal.returns-in-Ok
returns-in-Ok c =
    let a = c.args in
    let s = c.draw_file.new.sheet in
    let all_clauses = prints a.file.now (picture s) a.out.now _ 136
    (text_drawn a.file.now s _ c.if-file-gt4096.false c.in-Ok.ensures refl)
    (record { bytes = c.put_picture.ensures; long = sym (picture_long s) })
    (omega (arith, c.well_formed)) in
    record { value = all_clauses.0; out_after = all_clauses.1 }

pub returns-in-Err : goal.returns-in-Err
returns-in-Err c =
    let a = c.args in
    let f = c.in-Err.f in
    let all_clauses = prints a.file.now (refusal c.number.result f.offset) a.out.now _ c.put_refusal.result
    (text_refused a.file.now _ _ c.if-file-gt4096.false c.in-Err.ensures c.number.result f.offset (number_not_0 f.refusal) c.number.ensures refl)
    (record { bytes = c.put_refusal.ensures.out_after; long = c.put_refusal.ensures.value })
    (omega (arith, c.put_refusal.ensures.upper_bound, c.well_formed)) in
    record { value = all_clauses.0; out_after = all_clauses.1 }

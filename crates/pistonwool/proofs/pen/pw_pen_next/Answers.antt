-- `pistonwool::pen::pw_pen_next` meets its contract.
use Rattle.std.proofs.Common.{◌≡◌, refl, ap, ◌∙◌, rules}
use mir.Syntax.{w32}
use mir.Val.{to_z, of_z}
use Rattle.sheet.specs.declared.Cell.{Cell}
use Rattle.pistonwool.proofs.Pens.{asked_some, asked_none}
use Rattle.pistonwool.proofs.pen.pw_pen_next.Goals as goal

pub returns-in-Some : goal.returns-in-Some
returns-in-Some c =
    let h = asked_some c.args.pen.now c.in-Some.cell c.in-Some.ensures.cell in
    let x : to_z w32 (of_z w32 c.in-Some.cell.x) ≡ c.in-Some.cell.x = search rules in
    let y : to_z w32 (of_z w32 c.in-Some.cell.y) ≡ c.in-Some.cell.y = search rules in
    record {
      number = rw h.0 refl;
      pen = c.in-Some.ensures.pen;
      x = rw h.0 (x ∙ ap (λ (d : Cell). d.x) h.1);
      y = rw h.0 (y ∙ ap (λ (d : Cell). d.y) h.1);
    }

pub returns-in-None : goal.returns-in-None
returns-in-None c =
    let h = asked_none c.args.pen.now c.in-None.ensures.cell in
    record { number = rw h refl; pen = c.in-None.ensures.pen; x = rw h refl; y = rw h refl }

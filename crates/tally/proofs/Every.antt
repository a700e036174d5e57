-- One theorem for every drawing and the fill: beside a right list each keeps it right, as counting afresh would, and draws as it does without.
use Prim.Native.Nat.{ℕ}
use mathlib.Core.Path.{◌≡◌, refl, sym, ap, ◌∙◌}
use mathlib.Core.List.{List}
use mathlib.Core.Bool.{true}
use lib.Dec.{eqb}
use lib.ListN.{length}
use Rattle.sheet.specs.Reply.{Answer, is_done}
use Rattle.sheet.specs.Drawing.{only, Drawing, telling, Draws}
use Rattle.sheet.specs.Inner.{fits}
use Rattle.sheet.specs.declared.Cell.{Cell}
use Rattle.sheet.specs.declared.Shape.{Shape}
use Rattle.fill.specs.Fill.{FillsAs, Fills, fill_drawing}
use Rattle.tally.specs.Tally.{if_tally, recounted, beside, plain}
use Rattle.tally.specs.Kept.{Right, Kept}
use Rattle.tally.proofs.Beside.{Listed, Keeping, draws_without, paints_without}
use Rattle.tally.proofs.Kept.{right_of, of_right, tally_kept}
use Rattle.tally.proofs.Tests.{done_tally}

-- a list that is right, as the tests have it
listed : (k : Shape) (lent rows : List ℕ) → fits k (length lent) ≡ true → Right k lent rows → Listed k lent rows
listed k lent rows f R = record { fit = f; places = R.places; held = of_right k lent rows R }

module _ (form : Answer → Answer) (same : Keeping form) (lent rows : List ℕ) (reply : Answer) (bytes after : List ℕ) where
  -- a drawing beside a list is done only where that is right, on a sheet
  only_right : (d : Drawing) (a : Answer) → a.number ≡ (form (if_tally d.shape (length lent) lent rows (d.answer (length lent)))).number → is_done a ≡ true
      → (fits d.shape (length lent) ≡ true) × Right d.shape lent rows
  only_right d a e n =
      let next = d.answer (length lent) in
      let m = ap (λ (m : ℕ). eqb m 0) (sym (same (if_tally d.shape (length lent) lent rows next)) ∙ sym e) ∙ n in
      let p = done_tally d.shape (length lent) lent rows next m in
      (p.0, right_of d.shape lent rows p.1 p.2)

  -- Every drawing.
  pub drawing_kept : (d : Drawing) → Draws (beside form lent rows d) lent reply bytes → after ≡ recounted d.shape reply bytes rows
      → Kept d.shape d.figures lent rows reply bytes after
  drawing_kept d h c =
      tally_kept (telling (beside form lent rows d)) lent rows reply bytes after (record { paints = h; counts = c })
      (only_right d reply (ap (λ (a : Answer). a.number) h.tells))

  -- The fill.
  pub fill_kept : (k : Shape) (start : Cell) (boundary ink places : ℕ) (F : FillsAs (beside form lent rows) k start boundary ink places lent reply bytes)
      → after ≡ recounted k reply bytes rows → Kept k (only ink F.territory) lent rows reply bytes after
  fill_kept k start boundary ink places F c =
      let d = fill_drawing k start ink F.territory places in
      tally_kept (beside form lent rows d) lent rows reply bytes after (record { paints = F.draws; counts = c })
      (only_right d reply (ap (λ (a : Answer). a.number) F.draws.tells))

-- Beside a list that is right, on a sheet, reply, rectangle and bytes are those of the drawing without a list; and so of the fill.
pub as_without : (form : Answer → Answer) (d : Drawing) (lent rows : List ℕ) (reply : Answer) (bytes : List ℕ) → fits d.shape (length lent) ≡ true
    → Right d.shape lent rows → form (d.answer (length lent)) ≡ d.answer (length lent) → Draws (beside form lent rows d) lent reply bytes → Draws d lent reply bytes
as_without form d lent rows reply bytes f R same h = draws_without form d lent rows (listed d.shape lent rows f R) same reply bytes h

pub fill_as_without : (k : Shape) (start : Cell) (boundary ink places : ℕ) (lent rows : List ℕ) (reply : Answer) (bytes : List ℕ) → fits k (length lent) ≡ true
    → Right k lent rows → FillsAs (beside plain lent rows) k start boundary ink places lent reply bytes → Fills k start boundary ink places lent reply bytes
fill_as_without k start boundary ink places lent rows reply bytes f R F =
    record {
      territory = F.territory;
      decides = F.decides;
      draws = paints_without plain (fill_drawing k start ink F.territory places) lent rows (listed k lent rows f R) refl reply bytes F.draws;
    }

-- Who agrees on the boundary agrees on the territory: filled from any of its cells, it is the same bytes and the same number of cells.
use Prim.Native.Nat.{ℕ}
use mathlib.Core.Path.{◌≡◌, sym, subst}
use mathlib.Core.List.{List}
use mathlib.Core.Bool.{true}
use Rattle.sheet.specs.Reply.{Answer, is_done}
use Rattle.sheet.specs.Drawing.{Draws}
use Rattle.sheet.specs.Pitch.{with_pitch, Alike}
use Rattle.sheet.specs.declared.Cell.{Cell}
use Rattle.sheet.specs.declared.Shape.{Shape}
use Rattle.sheet.proofs.Pitch.{carried}
use Rattle.fill.specs.Territory.{Reach}
use Rattle.fill.specs.Fill.{Fills}
use Rattle.fill.proofs.Territories.{same_territory}
use Rattle.fill.proofs.Pitch.{same_territory_any_pitch}
use Rattle.record.specs.File.{holds, read_all}
use Rattle.record.specs.declared.types.Record.{Record}
use Rattle.drawing.specs.Boundary.{SameBoundary, InTurn}
use Rattle.drawing.specs.File.{file_drawing}
use Rattle.drawing.proofs.Boundary.{paint_records, same_boundary, same_in_turn, files_left}
use Rattle.drawing.proofs.Pitch.{file_any_pitch}

-- Two controllers draw two files, none of whose records is refused, on sheets that were alike,
module _ (k : Shape) (file other : List ℕ) (rs qs : List Record) (e : read_all file ≡ holds rs) (f : read_all other ≡ holds qs)
    (lent : List ℕ) (x y : Answer) (s t : List ℕ) (h : Draws (file_drawing k file) lent x s) (g : Draws (file_drawing k other) lent y t)
    -- and each fills from a cell of its own, of one territory:
    (a c : Cell) (b i p q : ℕ) (z w : Answer) (u v : List ℕ) (reach : Reach k b s a c)
    (F : Fills k a b i p s z u) (G : Fills k c b i q t w v) (d : is_done z ≡ true) (d' : is_done w ≡ true) where
  on_same : paint_records k rs lent ≡ paint_records k qs lent → (z ≡ w) × (u ≡ v)
  on_same n =
      let l = files_left k file other lent rs qs e f x y s t h g n in
      same_territory reach F (subst (λ (t : List ℕ). Fills k c b i q t w v) (sym l) G) d d'

  -- where they named one boundary in one ink, in any order, number and bytes are the same,
  pub same_command : (ink : ℕ) → SameBoundary ink rs qs → (z ≡ w) × (u ≡ v)
  same_command ink n = on_same (same_boundary k ink rs qs lent n)

  -- and so they are where they named it in the same order, in any inks.
  pub same_command_in_turn : InTurn rs qs → (z ≡ w) × (u ≡ v)
  same_command_in_turn n = on_same (same_in_turn k rs qs lent n)

-- Two controllers whose sheets differ in their pitch, but were alike cell for cell, agree cell for cell.
module _ (k : Shape) (pitch : ℕ) (file other : List ℕ) (rs qs : List Record) (e : read_all file ≡ holds rs) (f : read_all other ≡ holds qs)
    (lent back : List ℕ) (alike : Alike k pitch lent back) (x y : Answer) (s t : List ℕ)
    (h : Draws (file_drawing k file) lent x s) (g : Draws (file_drawing (with_pitch k pitch) other) back y t)
    (a c : Cell) (b i p q : ℕ) (z w : Answer) (u v : List ℕ) (reach : Reach k b s a c)
    (F : Fills k a b i p s z u) (G : Fills (with_pitch k pitch) c b i q t w v) (d : is_done z ≡ true) (d' : is_done w ≡ true) where
  on_alike : paint_records k rs lent ≡ paint_records k qs lent → (z ≡ w) × Alike k pitch u v
  on_alike n =
      let one = carried (λ k. file_drawing k other) (file_any_pitch other) k pitch lent back y t alike g in
      let l = files_left k file other lent rs qs e f x y s one.bytes h one.drawn n in
      same_territory_any_pitch (subst (λ (s : List ℕ). Alike k pitch s t) (sym l) one.alike) reach F G d d'

  pub same_command_any_pitch : (ink : ℕ) → SameBoundary ink rs qs → (z ≡ w) × Alike k pitch u v
  same_command_any_pitch ink n = on_alike (same_boundary k ink rs qs lent n)

  pub same_command_in_turn_any_pitch : InTurn rs qs → (z ≡ w) × Alike k pitch u v
  same_command_in_turn_any_pitch n = on_alike (same_in_turn k rs qs lent n)

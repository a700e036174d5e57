-- No program that refuses all, always replies the same or leaves what it is lent meets a statement about pictures: on a sheet of one cell.
-- And two replies that meet one statement of writing are equal, and so is what they leave.
use Prim.Native.Nat.{ℕ}
use mathlib.Core.Path.{◌≡◌, refl, ap}
use mathlib.Core.List.{List, [], ◌∷◌}
use native.Mathlib.Omega.{arith}
use lib.ListN.{get_or, replicate}
use Rattle.laws.specs.Below.{each}
use Rattle.laws.specs.Text.{decimal_in, decimal}
use Rattle.sheet.specs.Sheet.{on_sheet, place, cell_at, held, by_place, paint}
use Rattle.sheet.specs.Reply.{Answer}
use Rattle.sheet.specs.Drawing.{if_sheet, Paints}
use Rattle.sheet.specs.declared.Shape.{Shape}
use Rattle.sheet.proofs.Empty.{Both}
use Rattle.sheet.proofs.Unique.{one_value}
use Rattle.pbm.specs.Picture.{header_bytes, packed, sheet_bit, raster_byte, picture_of, write_answer, Writes}
use Rattle.pbm.specs.Page.{value_after}
use Rattle.pbm.specs.Header.{letters, run, past, names, rows_of}
use Rattle.pbm.specs.Reading.{pixel, read_answer, black, read_drawing}

abbrev small : Shape
small = record { width = 1; height = 1; pitch = 1 }

-- its picture, with the cell set: eight bytes
abbrev picture : List ℕ
picture = 80 ∷ 52 ∷ 10 ∷ 49 ∷ 32 ∷ 49 ∷ 10 ∷ 128 ∷ []

pub write_picture_both : Both (write_answer small (1 ∷ [])) 8 7
unfolding write_answer if_sheet picture_of header_bytes decimal decimal_in each raster_byte sheet_bit packed place
write_picture_both = record { done = refl; refused = refl }

pub picture_stores : (a : Answer) → Writes small (1 ∷ []) (replicate 8 0) a (replicate 8 0) → ⊥
unfolding write_answer if_sheet picture_of header_bytes decimal decimal_in each raster_byte sheet_bit packed place
picture_stores a w = let z : ◌≡◌ {A = ℕ} 0 80 = ap (λ (s : List ℕ). get_or s 0 0) w.leaves in omega arith

pub read_picture_both : Both (λ (file : List ℕ). read_answer small file 1) picture []
unfolding read_answer if_sheet names rows_of letters run past value_after
read_picture_both = record { done = refl; refused = refl }

pub picture_draws : (a : Answer) → Paints (read_drawing small picture) (0 ∷ []) a (0 ∷ []) → ⊥
unfolding read_answer if_sheet names rows_of letters run past value_after paint by_place held on_sheet cell_at black pixel
picture_draws a h = let z : ◌≡◌ {A = ℕ} 0 1 = ap (λ (s : List ℕ). get_or s 0 0) h.leaves in omega arith

pub pictures_one : (k : Shape) (s lent : List ℕ) (a b : Answer) (t u : List ℕ) → Writes k s lent a t → Writes k s lent b u → (a ≡ b) × (t ≡ u)
pictures_one k s lent a b t u h g = (one_value a b _ h.tells g.tells, one_value t u _ h.leaves g.leaves)

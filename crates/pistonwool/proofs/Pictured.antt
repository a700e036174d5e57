-- What writing and reading a picture told, told on to C.
use Prim.Native.Nat.{ℕ}
use mathlib.Core.Path.{◌≡◌, refl, sym, subst, ap, ◌∙◌}
use mathlib.Core.List.{List, []}
use lib.Dec.{leb}
use lib.ListN.{length}
use Rattle.sheet.specs.Reply.{Answer, value_of, settled}
use Rattle.sheet.specs.Drawing.{Paints}
use Rattle.sheet.specs.declared.Shape.{Shape}
use Rattle.sheet.specs.declared.refusal.Refusal.TheVariants.{Buffer, Header, Pixels}
use Rattle.pbm.specs.Picture.{raster_byte_count, picture_of, write_answer, Writes}
use Rattle.pbm.specs.Header.{names, rows_of}
use Rattle.pbm.specs.Reading.{read_answer, read_drawing}
use Rattle.pistonwool.specs.Told.{numbered, counted, Keeps}
use Rattle.pistonwool.proofs.Told.{Tells, unless_tells, sheet_tells, None, number_told, Value, value_told}

-- a picture that is written tells its byte count
write_tells : (k : Shape) (s : List ℕ) (room : ℕ) → Tells Value (write_answer k s room)
unfolding write_answer
write_tells k s room =
    sheet_tells k (length s) _ (λ e. unless_tells (leb (length (picture_of k s)) room) Buffer _ (λ f. Tells.done _ (record { n = length (picture_of k s); is = refl })))

pub picture_count : (k : Shape) (s lent after : List ℕ) (a : Answer) (n v before : ℕ) → Writes k s lent a after
    → (n ≡ a.number) × (v ≡ settled a (value_of a) before) → Writes k s lent (counted n v) after × Keeps n before v
picture_count k s lent after a n v before h e =
    let q = value_told a (subst (Tells Value) (sym h.tells) (write_tells k s (length lent))) n v before e.0 e.1 in
    (subst (λ (b : Answer). Writes k s lent b after) q.0 h, q.1)

-- one that is read tells its number alone
read_tells : (k : Shape) (file : List ℕ) (n : ℕ) → Tells None (read_answer k file n)
unfolding read_answer
read_tells k file n =
    sheet_tells k n _
    (λ e. unless_tells (names k.width k.height file) Header _ (λ f. unless_tells (leb (raster_byte_count k) (length (rows_of file))) Pixels _ (λ g. Tells.done [] refl)))

pub picture_number : (k : Shape) (file s t : List ℕ) (a : Answer) (n : ℕ) → Paints (read_drawing k file) s a t → n ≡ a.number → Paints (read_drawing k file) s (numbered n) t
picture_number k file s t a n h e =
    let q : a ≡ numbered n = number_told a (subst (Tells None) (sym h.tells) (read_tells k file (length s))) ∙ ap numbered (sym e) in
    subst (λ (b : Answer). Paints (read_drawing k file) s b t) q h

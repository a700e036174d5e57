-- A file's answer has one value: C is told its number and that.
use Prim.Native.Nat.{ℕ}
use mathlib.Core.Path.{◌≡◌, refl, sym, ap, ◌∙◌}
use mathlib.Core.List.{List}
use lib.ListN.{length}
use Rattle.sheet.specs.Reply.{Answer, value_of, settled}
use Rattle.sheet.specs.Drawing.{if_sheet, Drawing, Draws}
use Rattle.sheet.specs.declared.Shape.{Shape}
use Rattle.record.specs.File.{file_answer}
use Rattle.drawing.specs.File.{file_form, draw_file_answer, file_drawing}
use Rattle.pistonwool.specs.Told.{replied, box_numbers, DrawsInto}
use Rattle.pistonwool.proofs.Told.{into, same_number}

-- an answer in the form of a file's
pub form_value_lem : (d : Drawing) (s t : List ℕ) (a b : Answer) (n v : ℕ) (before after : List ℕ) → d.answer (length s) ≡ file_form b → Draws d s a t
    → n ≡ a.number → v ≡ value_of a → after ≡ settled a (box_numbers a.box) before → DrawsInto d s (replied n v) t before after
form_value_lem d s t a b n v before after is h e f g =
    let number = sym (ap (λ (o : Answer). o.number) is) ∙ sym (same_number d s t a h) ∙ sym e in
    let value = sym (ap value_of is) ∙ sym (ap value_of h.tells) ∙ sym f in
    into d s t a h (replied n v) before after (is ∙ (λ i. replied (number i) (value i))) g

pub draws_value : (k : Shape) (file s t : List ℕ) (a : Answer) (n v : ℕ) (before after : List ℕ) → Draws (file_drawing k file) s a t → n ≡ a.number → v ≡ value_of a
    → after ≡ settled a (box_numbers a.box) before → DrawsInto (file_drawing k file) s (replied n v) t before after
unfolding draw_file_answer
draws_value k file s t a n v before after h e f g = form_value_lem (file_drawing k file) s t a (if_sheet k (length s) (file_answer file)) n v before after refl h e f g

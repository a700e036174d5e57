-- What is shown of pictures.
use Prim.Native.Nat.{ℕ}
use mathlib.Core.Path.{◌≡◌, refl, sym, ◌∙◌}
use mathlib.Core.List.{List, [], ◌∷◌}
use mathlib.Core.Bool.{Bool}
use lib.Dec.{leb}
use lib.ListN.{length}
use Rattle.sheet.specs.Reply.{done, unless}
use Rattle.sheet.specs.Drawing.{if_sheet, Drawing}
use Rattle.sheet.specs.declared.Shape.{Shape}
use Rattle.sheet.specs.declared.refusal.Refusal.TheVariants.{Header, Pixels}
use Rattle.pbm.specs.Picture.{raster_byte_count}
use Rattle.pbm.specs.Page.{Headed}
use Rattle.pbm.specs.Header.{names, rows_of}
use Rattle.pbm.specs.Reading.{read_answer, everywhere, black, read_drawing}
use Rattle.pbm.specs.Shown.{Shown}
use Rattle.pbm.proofs.Again.{back_done, back_cell, again_rows}
use Rattle.pbm.proofs.Grammar.{page_size, page_rows, page_names, names_page}

-- what the reading of a file turns on: whether it names a size, and its rows
abbrev reading : Shape → (ℕ → ℕ → Bool) → List ℕ → Drawing
reading k named rows =
    record {
      shape = k;
      answer = λ (n : ℕ). if_sheet k n (unless (named k.width k.height) Header (unless (leb (raster_byte_count k) (length rows)) Pixels (done [])));
      figures = record { ink = 0; figure = everywhere } ∷ record { ink = 1; figure = black k.width rows } ∷ [];
    }

reading_is : (k : Shape) (f : List ℕ) → read_drawing k f ≡ reading k (λ (a b : ℕ). names a b f) (rows_of f)
unfolding read_answer
reading_is k f = refl

read_alike : (k : Shape) (f g : List ℕ) (width height : ℕ) (rows : List ℕ) → Headed f width height rows → Headed g width height rows → read_drawing k f ≡ read_drawing k g
read_alike k f g width height rows p q =
    let named : ◌≡◌ {A = ℕ → ℕ → Bool} (λ a b. names a b f) (λ a b. names a b g) = λ i a b. (page_size p a b ∙ sym (page_size q a b)) i in
    let same : rows_of f ≡ rows_of g = page_rows p ∙ sym (page_rows q) in
    reading_is k f ∙ (λ i. reading k (named i) (same i)) ∙ sym (reading_is k g)

pub shown : Shown
shown =
    record {
      by_page = λ file width height rows h. page_names h;
      to_page = λ file width height e. names_page file width height e;
      alike = read_alike;
      back = λ k j s t more reply bytes sheet same h. (back_done k j s t more reply bytes sheet same h, back_cell k j s t more reply bytes sheet same h);
      again = λ k file t reply bytes own h ok. again_rows k file t bytes reply own h ok;
    }

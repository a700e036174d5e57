-- Filling a territory.
use Rattle.std.specs.Prelude.{ℕ, ◌*◌, ◌≡◌, List, [], ◌∷◌, Bool, true, false, leb, pos, Result, Ok, Err}
use Rattle.sheet.specs.Sheet.{on_sheet, cells_on}
use Rattle.sheet.specs.Repaint.{nothing, box_of}
use Rattle.sheet.specs.Reply.{Answer, done, count_answer, unless, is_done, settled}
use Rattle.sheet.specs.Drawing.{Drawing, Paints, only, if_sheet}
use Rattle.sheet.specs.declared.Cell.{Cell}
use Rattle.sheet.specs.declared.Shape.{Shape}
use Rattle.sheet.specs.declared.refusal.Refusal.{Refusal}
use Rattle.sheet.specs.declared.refusal.Refusal.TheVariants.{Work, Start}
use Rattle.fill.specs.declared.Filled.{Filled}
use Rattle.fill.specs.Territory.{Territory}

-- 1, 15, then 17 when the work slice has fewer than width × height places, then 18 when the start is off the sheet, else 0 with the number of cells
unfoldable pub fill_answer : Shape → Cell → ℕ → (Cell → Bool) → ℕ → Answer
fill_answer k start places territory n =
    if_sheet k n (unless (leb (k.width * k.height) places) Work (unless (on_sheet k start) Start (done (pos (cells_on k territory) ∷ []))))

-- the drawing of a territory that a test tells
abbrev pub fill_drawing : Shape → Cell → ℕ → (Cell → Bool) → ℕ → Drawing
fill_drawing k start ink territory places = record { shape = k; answer = fill_answer k start places territory; figures = only ink territory }

-- A fill sets to the territory ink exactly the cells that can be reached, judged on the sheet as it was lent: the drawing of the
-- territory, or what is made of that drawing, as by K14's list beside the sheet.
pub record FillsAs (made : Drawing → Drawing) (k : Shape) (start : Cell) (boundary ink places : ℕ)
    (lent : List ℕ) (reply : Answer) (bytes : List ℕ) : Type 0 where
  pub territory : Cell → Bool
  pub decides : is_done reply ≡ true → Territory k boundary lent start territory
  pub draws : Paints (made (fill_drawing k start ink territory places)) lent reply bytes

abbrev pub Fills : Shape → Cell → ℕ → ℕ → ℕ → List ℕ → Answer → List ℕ → Type 0
Fills k start boundary ink places lent reply bytes = FillsAs (λ d. d) k start boundary ink places lent reply bytes

-- A fill that tells also which rows it set cells in: from the first to before the one after the last, as their smallest rectangle has
-- them; those of no cell where it is refused.
pub record FillsRows (k : Shape) (start : Cell) (boundary ink places : ℕ)
    (lent : List ℕ) (reply : Answer) (top bottom : ℕ) (bytes : List ℕ) : Type 0 where
  pub fills : Fills k start boundary ink places lent reply bytes
  pub first : top ≡ (settled reply (box_of k fills.territory) nothing).top
  pub past : bottom ≡ (settled reply (box_of k fills.territory) nothing).bottom

-- what it tells: of its cells the number, and the rows, those of no cell where it is refused
abbrev pub filled_answer : Filled → Answer
filled_answer f = count_answer f.cells

abbrev pub first_row : Result Filled Refusal → ℕ
first_row (Ok f) = f.top
first_row (Err r) = 4096

abbrev pub past_row : Result Filled Refusal → ℕ
past_row (Ok f) = f.bottom
past_row (Err r) = 0

-- A refusal leaves the work slice as it was.
abbrev pub Spares : Answer → List ℕ → List ℕ → Type 0
Spares reply before after = is_done reply ≡ false → after ≡ before

-- What is shown of the tallies: a right list stays right, whatever is drawn or filled.
use Rattle.std.specs.Prelude.{ℕ, ◌≤◌, ◌<◌, ◌≡◌, List, [], ◌∷◌, true, false, ◌⊎◌, length, get_or}
use Rattle.sheet.specs.Sheet.{cell_of}
use Rattle.sheet.specs.Reply.{Answer, is_done}
use Rattle.sheet.specs.Drawing.{Inked, box_all, Drawing, Paints}
use Rattle.sheet.specs.declared.Shape.{Shape}
use Rattle.tally.specs.Tally.{row_count, recounted, Counts}

-- A list is right where it has one place for each row, and each holds that row's number.
pub record Right (k : Shape) (s rows : List ℕ) : Type 0 where
  pub places : length rows ≡ k.height
  pub numbers : (y : ℕ) → y < k.height → get_or rows y 0 ≡ row_count k s y

-- a drawing or a fill with a list: the reply, the bytes and the list
pub record Tallies (d : Drawing) (lent rows : List ℕ) (reply : Answer) (bytes after : List ℕ) : Type 0 where
  pub paints : Paints d lent reply bytes
  pub counts : after ≡ recounted d.shape reply bytes rows

-- no figure has a cell in the row
pub data Clear (k : Shape) (y : ℕ) : (figures : List Inked) → Type 0 where
  none : Clear k y []
  also : (f : Inked) (fs : List Inked) → ((x : ℕ) → x < k.width → f.figure (cell_of x y) ≡ false) → Clear k y fs → Clear k y (f ∷ fs)

-- What is shown of a drawing or a fill of these figures beside a list.
pub record Kept (k : Shape) (figures : List Inked) (lent rows : List ℕ) (reply : Answer) (bytes after : List ℕ) : Type 0 where
  -- a list that is right is right afterwards, drawn or refused
  pub right : Right k lent rows → Right k bytes after
  -- and what counting afresh leaves, whatever the list held that was lent for it
  pub afresh : Right k lent rows → (other : List ℕ) (told : Answer) (counted : List ℕ)
      → Counts k bytes other told counted → is_done told ≡ true → after ≡ counted
  -- a wrong one is refused, and nothing is set
  pub wrong : (Right k lent rows → ⊥) → (is_done reply ≡ false) × (bytes ≡ lent) × (after ≡ rows)
  -- a row that is not drawn on keeps its number, and so does each outside the rectangle over the figures
  pub undrawn : (y : ℕ) → Clear k y figures → get_or after y 0 ≡ get_or rows y 0
  pub outside : (y : ℕ) → (y < (box_all k figures).top) ⊎ ((box_all k figures).bottom ≤ y) → get_or after y 0 ≡ get_or rows y 0

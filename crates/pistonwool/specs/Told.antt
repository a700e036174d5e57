-- What C is told: an answer's number, its value and its rectangle where C lends a place for them; and the sheet and the survey that its
-- arguments are.
use Rattle.std.specs.Prelude.{ℕ, ◌-◌, ◌≡◌, List, [], ◌∷◌, cond, eqb, ltb, pos, Float}
use Rattle.sheet.specs.Repaint.{nothing}
use Rattle.sheet.specs.Reply.{Answer, with_box, settled}
use Rattle.sheet.specs.Drawing.{Drawing, Draws}
use Rattle.sheet.specs.declared.Shape.{Shape}
use Rattle.sheet.specs.declared.repaint.Rectangle.{Rectangle}
use Rattle.survey.specs.declared.Survey.{Survey}

-- a number alone; one with a value, or with two, where it is 0; one with a value in any case
abbrev pub numbered : ℕ → Answer
numbered n = record { number = n; values = []; box = nothing }

abbrev pub counted : ℕ → ℕ → Answer
counted n v = record { number = n; values = cond (eqb n 0) (pos v ∷ []) []; box = nothing }

abbrev pub two_counted : ℕ → ℕ → ℕ → Answer
two_counted n v w = record { number = n; values = cond (eqb n 0) (pos v ∷ pos w ∷ []) []; box = nothing }

abbrev pub replied : ℕ → ℕ → Answer
replied n v = record { number = n; values = pos v ∷ []; box = nothing }

-- a refusal leaves what was in the value's place
abbrev pub Keeps : ℕ → ℕ → ℕ → Type 0
Keeps n before after = (n ≡ 0 → ⊥) → after ≡ before

-- a rectangle in four numbers: x, y, width and height; all 0 for none
abbrev pub box_numbers : Rectangle → List ℕ
box_numbers r =
    cond (ltb r.left r.right)
    (r.left ∷ r.top ∷ (r.right - r.left) ∷ (r.bottom - r.top) ∷ [])
    (0 ∷ 0 ∷ 0 ∷ 0 ∷ [])

-- A drawing for C: it is drawn, and the four numbers are those of the rectangle that it tells, or untouched by a refusal.
pub record DrawsInto (d : Drawing) (lent : List ℕ) (reply : Answer) (bytes before after : List ℕ) : Type 0 where
  pub rectangle : Rectangle
  pub draws : Draws d lent (with_box reply rectangle) bytes
  pub boxes : after ≡ settled reply (box_numbers rectangle) before

-- the sheet and the survey, each of its three numbers
abbrev pub shape_of : ℕ → ℕ → ℕ → Shape
shape_of width height pitch = record { width = width; height = height; pitch = pitch }

abbrev pub survey_of : Float → Float → Float → Survey
survey_of east north size = record { east = east; north = north; size = size }

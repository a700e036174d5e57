-- The answers of a pen: at each return of `next`, and of the lent form by those of `next`.
use Rattle.std.proofs.Common.{◌≡◌, Option, Some, None, ℕ, ◌-◌, ◌<◌, ◌≤◌, Bool, true, false, cond, ◌&&◌, [], ◌++◌, refl, ap, ◌∙◌, le-leb}
use borrow.Author.Tests.{lt-leb}
use Rattle.sheet.specs.Sheet.{within_limits}
use Rattle.sheet.specs.Inner.{moved_cell, lowered_cell}
use Rattle.sheet.specs.Figure.{cell_values}
use Rattle.sheet.specs.Reply.{done, told_next}
use Rattle.sheet.specs.declared.Cell.{Cell}
use Rattle.sheet.specs.declared.Spot.{Spot}
use Rattle.line.specs.Rule.{long}
use Rattle.line.specs.Listing.{listed}
use Rattle.line.specs.Inner.Course.{spot_at, lesser_spot, path_between, IsMoved, Runs}
use Rattle.line.specs.Pen.{pen_values, step_answer, cell_answer, has_cell, next_cell, moved_on, next_answer, ask_answer, left, kept_of}
use Rattle.line.specs.Inner.Step.{asked_of}
use Rattle.line.specs.declared.Path.{Path}
use Rattle.line.specs.declared.pen.Pen.{Pen}
use Rattle.line.proofs.Bridge.{first_in, second_in, ends_lifted, course_runs, course_long}
use Rattle.line.proofs.Within.{listed_cell}
use Rattle.line.proofs.Replies.{step_one}

-- both ends are within the limits
abbrev pub Takes : Cell → Cell → Type 0
Takes a b = (within_limits a && within_limits b) ≡ true

-- so are the spots that they are lifted to
pub spots_moved : (a b : Cell) → Takes a b → (p q : Spot) → p ≡ moved_cell a → q ≡ moved_cell b → IsMoved p × IsMoved q
spots_moved a b e p q f g =
    let l = ends_lifted a b e p q f g in
    (record { x = l.0.inside_x; y = l.0.inside_y }, record { x = l.1.inside_x; y = l.1.inside_y })

-- the course of the line between such ends: what inner functions are promised, its length and its cells
pub record Courses (a b : Cell) (p q : Spot) (k : Path) : Type 0 where
  pub runs : Runs k
  pub steps : k.long ≡ long a b
  pub cells : (t : Bool) → t ≡ lesser_spot p q → (n : ℕ) → n ≤ long a b → lowered_cell (spot_at k (cond t n (k.long - n))) ≡ listed a b n

pub courses : (a b : Cell) (p q : Spot) (k : Path) → Takes a b → p ≡ moved_cell a → q ≡ moved_cell b → k ≡ path_between p q → Courses a b p q k
courses a b p q k e f g h =
    let l = ends_lifted a b e p q f g in
    rw h
    (record {
      runs = course_runs a b p q l.0 l.1;
      steps = course_long a b p q l.0 l.1;
      cells = λ t u n m. rw u (listed_cell a b p q (first_in a b e) (second_in a b e) l.0 l.1 n m);
    })

-- whether a pen has a cell to answer, and its answer
module _ (p : Pen) where
  pub has_cell_lem : Takes p.from p.to → p.told ≤ long p.from p.to → has_cell p ≡ true
  unfolding has_cell
  has_cell_lem e l = simp (e, le-leb p.told (long p.from p.to) l)

  pub out_of_limits : (within_limits p.from && within_limits p.to) ≡ false → has_cell p ≡ false
  unfolding has_cell
  out_of_limits e = simp e

  pub past_last : Takes p.from p.to → long p.from p.to < p.told → has_cell p ≡ false
  unfolding has_cell
  past_last e l = simp (e, lt-leb p.told (long p.from p.to) l)

  pub finishes : has_cell p ≡ false → done [] ≡ next_answer p
  unfolding next_answer
  finishes e = simp e

  pub answers : (c : Cell) → has_cell p ≡ true → c ≡ next_cell p → done (cell_values c ++ pen_values (moved_on p)) ≡ next_answer p
  unfolding next_answer
  answers c e f = simp e (ap (λ (d : Cell). done (cell_values d ++ pen_values (moved_on p))) f)

-- the step that `next` answers
unfoldable pub next_of : Pen → Option (Cell × Pen)
next_of p = cond (has_cell p) (Some (next_cell p, moved_on p)) None

pub next_is : (p : Pen) (s : Option (Cell × Pen)) → told_next step_answer s ≡ next_answer p → s ≡ next_of p
unfolding next_answer next_of
next_is p s e = step_one s (next_of p) (e ∙ by (has_cell p))
  where
    by : (t : Bool) → done (cond t (cell_values (next_cell p) ++ pen_values (moved_on p)) []) ≡ told_next step_answer (cond t (Some (next_cell p, moved_on p)) None)
    by true = refl
    by false = refl

-- the lent form, by that step
pub asks : (p : Pen) (s : Option (Cell × Pen)) (a : Option Cell) (q : Pen) → told_next step_answer s ≡ next_answer p → a ≡ asked_of s → q ≡ kept_of s p → (told_next cell_answer a ≡ ask_answer p) × (q ≡ left p)
unfolding ask_answer left next_of
asks p s a q e f g = (ap (told_next cell_answer) (f ∙ ap asked_of (next_is p s e)) ∙ by (has_cell p), g ∙ ap (λ (r : Option (Cell × Pen)). kept_of r p) (next_is p s e) ∙ of (has_cell p))
  where
    by : (t : Bool) → told_next cell_answer (asked_of (cond t (Some (next_cell p, moved_on p)) None)) ≡ done (cond t (cell_values (next_cell p)) [])
    by true = refl
    by false = refl

    of : (t : Bool) → kept_of (cond t (Some (next_cell p, moved_on p)) None) p ≡ cond t (moved_on p) p
    of true = refl
    of false = refl

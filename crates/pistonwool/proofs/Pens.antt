-- The lent pen, by what its callees told: a beginning and an asking.
use Prim.Native.Nat.{◌+◌}
use mathlib.Core.Path.{◌≡◌, refl, sym, ap, ◌∙◌}
use mathlib.Core.List.{[]}
use mathlib.Core.Bool.{Bool, true, false, cond, ◌&&◌, true≢false}
use native.Mathlib.Omega.{arith}
use Rattle.std.specs.Prelude.{Result, Ok, Err, Option, Some, None, unwrap_or, is_some}
use Rattle.sheet.specs.Sheet.{within_limits}
use Rattle.sheet.specs.Figure.{cell_values}
use Rattle.sheet.specs.Reply.{done, unless, told, told_next, settled}
use Rattle.sheet.specs.declared.Cell.{Cell}
use Rattle.sheet.specs.declared.refusal.Refusal.{Refusal}
use Rattle.sheet.specs.declared.refusal.Refusal.TheVariants.{Coordinate}
use Rattle.line.specs.Pen.{pen_values, pen_answer, cell_answer, fresh, begin_answer, has_cell, next_cell, moved_on, left, ask_answer}
use Rattle.line.specs.declared.pen.Pen.{Pen}
use Rattle.line.proofs.Replies.{begun_one, asked_one}

-- the reply of a beginning, and of an asking
begun_from : Cell → Cell → Result Pen Refusal
begun_from a b = cond (within_limits a && within_limits b) (Ok (fresh a b)) (Err Coordinate)

begun_is : (a b : Cell) (r : Result Pen Refusal) → told pen_answer r ≡ begin_answer a b → r ≡ begun_from a b
unfolding begin_answer begun_from
begun_is a b r e = begun_one r (begun_from a b) (e ∙ by (within_limits a && within_limits b))
  where
    by : (t : Bool) → unless t Coordinate (done (pen_values (fresh a b))) ≡ told pen_answer (cond t (Ok (fresh a b)) (Err Coordinate))
    by true = refl
    by false = refl

asked_from : Pen → Option Cell
asked_from p = cond (has_cell p) (Some (next_cell p)) None

asked_is : (p : Pen) (a : Option Cell) → told_next cell_answer a ≡ ask_answer p → a ≡ asked_from p
unfolding ask_answer asked_from
asked_is p a e = asked_one a (asked_from p) (e ∙ by (has_cell p))
  where
    by : (t : Bool) → done (cond t (cell_values (next_cell p)) []) ≡ told_next cell_answer (cond t (Some (next_cell p)) None)
    by true = refl
    by false = refl

-- the pen that a beginning leaves where another was before
abbrev pub pen_after : Result Pen Refusal → Pen → Pen
pen_after (Ok p) before = p
pen_after (Err r) before = before

pub begun_pen : (a b : Cell) (before : Pen) (r : Result Pen Refusal) → told pen_answer r ≡ begin_answer a b → pen_after r before ≡ settled (begin_answer a b) (fresh a b) before
unfolding begin_answer begun_from
begun_pen a b before r e = ap (λ (q : Result Pen Refusal). pen_after q before) (begun_is a b r e) ∙ by (within_limits a && within_limits b)
  where
    by : (t : Bool) → pen_after (cond t (Ok (fresh a b)) (Err Coordinate)) before ≡ settled (unless t Coordinate (done (pen_values (fresh a b)))) (fresh a b) before
    by true = refl
    by false = refl

some_not_none : {c : Cell} → Some c ≡ None → ⊥
some_not_none e = true≢false (ap (λ (a : Option Cell). is_some a) e)

-- whether an asking has a cell, and which
some_is : (t : Bool) (c d : Cell) → Some c ≡ cond t (Some d) None → (t ≡ true) × (c ≡ d)
some_is true c d e = (refl, ap (λ (a : Option Cell). unwrap_or a c) e)
some_is false c d e = absurd (some_not_none e)

none_is : (t : Bool) (d : Cell) → None ≡ cond t (Some d) None → t ≡ false
none_is true d e = absurd (some_not_none (sym e))
none_is false d e = refl

pub asked_some : (p : Pen) (c : Cell) → told_next cell_answer (Some c) ≡ ask_answer p → (has_cell p ≡ true) × (c ≡ next_cell p)
unfolding asked_from
asked_some p c e = some_is (has_cell p) c (next_cell p) (asked_is p (Some c) e)

pub asked_none : (p : Pen) → told_next cell_answer None ≡ ask_answer p → has_cell p ≡ false
unfolding asked_from
asked_none p e = none_is (has_cell p) (next_cell p) (asked_is p None e)

-- A pen that marks time breaks the statement of `pw_pen_next`: one with a cell left is not left as it was.
pub pen_moves : (p : Pen) → has_cell p ≡ true → p ≡ left p → ⊥
unfolding left
pen_moves p e f =
    let g : p ≡ moved_on p = f ∙ ap (λ (t : Bool). cond t (moved_on p) p) e in
    let z : p.told ≡ p.told + 1 = ap (λ (q : Pen). q.told) g in
    omega arith

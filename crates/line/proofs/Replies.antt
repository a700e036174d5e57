-- Two replies of a pen that meet one statement are equal: the telling of each is one-to-one.
use Rattle.std.proofs.Common.{◌≡◌, Result, Option, List, [], ◌∷◌, length, arith, get_or, drop, ℤ, pos, nat_abs, sym, refl, ap, ◌∙◌}
use Rattle.sheet.specs.Reply.{Answer, done, told, told_next}
use Rattle.sheet.specs.declared.Cell.{Cell}
use Rattle.sheet.specs.declared.refusal.Refusal.{Refusal}
use Rattle.sheet.proofs.Unique.{told_one, told_next_one}
use Rattle.line.specs.Pen.{pen_values, pen_answer, step_answer, cell_answer}
use Rattle.line.specs.declared.pen.Pen.{Pen}

-- the cell and the pen that values tell
cell_of : List ℤ → Cell
cell_of s = record { x = get_or s 0 (pos 0); y = get_or s 1 (pos 0) }

pen_of : List ℤ → Pen
pen_of s = record { from = cell_of s; to = cell_of (drop 2 s); told = nat_abs (get_or s 4 (pos 0)) }

pen_of_lem : (p : Pen) → pen_of (pen_values p) ≡ p
unfolding pen_of cell_of
pen_of_lem p = refl

-- two pens, two cells and two replies told alike are equal
pub pen_one : (p q : Pen) → pen_values p ≡ pen_values q → p ≡ q
pen_one p q e = sym (pen_of_lem p) ∙ ap pen_of e ∙ pen_of_lem q

cell_one : (c d : Cell) → cell_answer c ≡ cell_answer d → c ≡ d
unfolding cell_of
cell_one c d e = ap (λ (a : Answer). cell_of a.values) e

step_one_of : (s t : Cell × Pen) → step_answer s ≡ step_answer t → s ≡ t
unfolding cell_of pen_of
step_one_of (c, p) (d, q) e = ap (λ (a : Answer). (cell_of a.values, pen_of (drop 2 a.values))) e

values_differ : {x : ℤ} {s : List ℤ} → done (x ∷ s) ≡ done [] → ⊥
values_differ e = omega (arith, ap (λ (a : Answer). length a.values) e)

pub begun_one : (r q : Result Pen Refusal) → told pen_answer r ≡ told pen_answer q → r ≡ q
begun_one = told_one pen_answer (λ p. refl) (λ p q e. pen_one p q (ap (λ (a : Answer). a.values) e))

pub step_one : (r q : Option (Cell × Pen)) → told_next step_answer r ≡ told_next step_answer q → r ≡ q
step_one = told_next_one step_answer (λ s e. values_differ e) step_one_of

pub asked_one : (r q : Option Cell) → told_next cell_answer r ≡ told_next cell_answer q → r ≡ q
asked_one = told_next_one cell_answer (λ c e. values_differ e) cell_one

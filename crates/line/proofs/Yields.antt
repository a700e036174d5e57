-- A pen as an iterator: it gives the cells that it has left.
use Rattle.std.proofs.Common.{◌≡◌, ℕ, zero, suc, ◌+◌, ◌<◌, ◌≤◌, Bool, true, false, cond, ◌&&◌, Option, Some, None, List, [], ◌∷◌, drop, refl, sym, ap, ◌∙◌, length, leb, leb-false, add-one, arith}
use Rattle.std.specs.Iterator.{YieldsFirst, item_count, MakesProgress}
use Rattle.sheet.specs.Sheet.{within_limits}
use Rattle.sheet.specs.Figure.{cell_values}
use Rattle.sheet.specs.Reply.{done, told_next}
use Rattle.sheet.specs.declared.Cell.{Cell}
use Rattle.line.specs.Rule.{long}
use Rattle.line.specs.Listing.{listed, cells_of, listing}
use Rattle.line.specs.Pen.{cell_answer, has_cell, next_cell, moved_on, ask_answer, left, cells_left}
use Rattle.line.specs.declared.pen.Pen.{Pen}
use Rattle.line.proofs.Replies.{asked_one}
use Rattle.line.proofs.Asking.{cell_left}

drop_more : (f : ℕ → Cell) (n i : ℕ) → i < n → drop i (cells_of f n) ≡ f i ∷ drop (suc i) (cells_of f n)
drop_more f zero i h = absurd (omega (arith, h))
drop_more f (suc n) zero h = refl
drop_more f (suc n) (suc i) h = drop_more (λ k. f (suc k)) n i (omega (arith, h))

drop_none : (f : ℕ → Cell) (n i : ℕ) → n ≤ i → drop i (cells_of f n) ≡ []
drop_none f zero zero h = refl
drop_none f zero (suc i) h = refl
drop_none f (suc n) zero h = absurd (omega (arith, h))
drop_none f (suc n) (suc i) h = drop_none (λ k. f (suc k)) n i (omega (arith, h))

module _ (p : Pen) where
  some_left : has_cell p ≡ true → cells_left p ≡ next_cell p ∷ cells_left (moved_on p)
  unfolding cells_left
  some_left e =
      let h = cell_left p e in
      simp h.0 (rw (add-one p.told) (drop_more (listed p.from p.to) (long p.from p.to + 1) p.told (omega (arith, h.1))))

  none_left : has_cell p ≡ false → cells_left p ≡ []
  unfolding cells_left has_cell
  none_left e = by (within_limits p.from && within_limits p.to) refl
    where
      by : (t : Bool) → (within_limits p.from && within_limits p.to) ≡ t → cond t (drop p.told (listing p.from p.to)) [] ≡ []
      by true f = drop_none (listed p.from p.to) (long p.from p.to + 1) p.told (omega (arith, leb-false p.told (long p.from p.to) (sym (ap (λ (u : Bool). u && leb p.told (long p.from p.to)) f) ∙ e)))
      by false f = refl

  answered : (t : Bool) → done (cond t (cell_values (next_cell p)) []) ≡ told_next cell_answer (cond t (Some (next_cell p)) None)
  answered true = refl
  answered false = refl

  pub yields : (r : Option Cell) (q : Pen) → told_next cell_answer r ≡ ask_answer p → q ≡ left p → YieldsFirst cells_left p r q
  unfolding ask_answer left
  yields r q e f =
      rw (asked_one r (cond (has_cell p) (Some (next_cell p)) None) (e ∙ answered (has_cell p)), f) (by (has_cell p) refl)
    where
      by : (t : Bool) → has_cell p ≡ t → YieldsFirst cells_left p (cond t (Some (next_cell p)) None) (cond t (moved_on p) p)
      by true g = some_left g
      by false g = (none_left g, none_left g)

-- a call that gives the first of what is left leaves less
pub progress : {S A : Type 0} (can : S → Type 0) → ((t : S) → can t) → (rest : S → List A) (s : S) (r : Option A) (t : S) → YieldsFirst rest s r t → MakesProgress can (item_count rest) s r t
progress can all rest s (Some x) t h = record { on = λ f. let less = ap length h in (all t, f, omega (arith, less)); keeps = all t; rests = λ f. tt }
progress can all rest s None t h = record { on = λ f. tt; keeps = tt; rests = λ f. f }

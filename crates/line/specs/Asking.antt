-- Document 01, "Lines": a pen that is asked again and again, and the states that this leads to.
use Rattle.std.specs.Prelude.{◌≡◌, ℕ, suc, ◌<◌, ◌≤◌, Option, Some, None, Ok}
use Rattle.sheet.specs.Reply.{told, told_next}
use Rattle.sheet.specs.declared.Cell.{Cell}
use Rattle.line.specs.Rule.{long}
use Rattle.line.specs.Listing.{listed}
use Rattle.line.specs.Pen.{pen_answer, step_answer, cell_answer, begin_answer, next_answer, ask_answer, left, kept_of}
use Rattle.line.specs.declared.pen.Pen.{Pen}

-- the pen p asked by value, again and again: each reply is as `next` promises, and the pen asked next is the reply's, or the same after "finished"
pub record Asks (p : Pen) (pens : ℕ → Pen) (steps : ℕ → Option (Cell × Pen)) : Type 0 where
  pub first : pens 0 ≡ p
  pub reply : (n : ℕ) → told_next step_answer (steps n) ≡ next_answer (pens n)
  pub then : (n : ℕ) → pens (suc n) ≡ kept_of (steps n) (pens n)

-- the pen p lent again and again: each reply, and the pen left by it, are as `advance` promises
pub record Lends (p : Pen) (pens : ℕ → Pen) (replies : ℕ → Option Cell) : Type 0 where
  pub first : pens 0 ≡ p
  pub reply : (n : ℕ) → told_next cell_answer (replies n) ≡ ask_answer (pens n)
  pub then : (n : ℕ) → pens (suc n) ≡ left (pens n)

-- Asked for a cell, the pen answers the next cell of the listing and the pen moved on; after the last it answers "finished" and stays the same.
pub record Lists (a b : Cell) (pens : ℕ → Pen) (steps : ℕ → Option (Cell × Pen)) : Type 0 where
  pub cells : (n : ℕ) → n ≤ long a b → steps n ≡ Some (listed a b n, pens (suc n))
  pub finished : (n : ℕ) → long a b < n → steps n ≡ None
  pub stays : (n : ℕ) → long a b < n → pens (suc n) ≡ pens n

-- a state that beginning and asking leads to
pub data Reached : (p : Pen) → Type 0 where
  begun : (a b : Cell) (p : Pen) → told pen_answer (Ok p) ≡ begin_answer a b → Reached p
  asked : (p q : Pen) (c : Cell) → Reached p → told_next step_answer (Some (c, q)) ≡ next_answer p → Reached q
  lent : (p : Pen) → Reached p → Reached (left p)

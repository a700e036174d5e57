-- A pen begun and asked again and again lists the cells of its line, in both forms; and which states that leads to.
use Rattle.std.proofs.Common.{◌≡◌, Option, Some, None, Ok, ℕ, zero, suc, ◌+◌, ◌<◌, ◌≤◌, min, Bool, true, false, cond, ◌&&◌, leb, ◌↔◌, [], length, sym, refl, ap, ◌∙◌, subst, inl, inr, add-one, arith, leb→le}
use Rattle.laws.proofs.Products.{lt_or_ge}
use Rattle.laws.proofs.Tests.{and_l, and_r, is_true, is_false, from_true}
use Rattle.sheet.specs.Sheet.{within_limits}
use Rattle.sheet.specs.Reply.{Answer, done, told as told_of, told_next, unless}
use Rattle.sheet.specs.declared.Cell.{Cell}
use Rattle.sheet.specs.declared.refusal.Refusal.TheVariants.{Coordinate}
use Rattle.line.specs.Rule.{long}
use Rattle.line.specs.Listing.{listed}
use Rattle.line.specs.Pen.{pen_values, pen_answer, step_answer, fresh, begin_answer, has_cell, next_cell, moved_on, next_answer, ask_answer, left}
use Rattle.line.specs.Inner.Step.{asked_of}
use Rattle.line.specs.Asking.{Asks, Lends, Lists, Reached, begun, asked, lent}
use Rattle.line.specs.declared.pen.Pen.{Pen}
use Rattle.line.proofs.Replies.{pen_one, asked_one}
use Rattle.line.proofs.Pens.{Takes, has_cell_lem, past_last, finishes, answers, next_of, next_is, asks}

-- the pen that has answered n cells
abbrev told : Cell → Cell → ℕ → Pen
told a b n = record { from = a; to = b; told = n }

-- what a beginning answers
begins : (a b : Cell) (p : Pen) → told_of pen_answer (Ok p) ≡ begin_answer a b → Takes a b × (p ≡ fresh a b)
unfolding begin_answer
begins a b p e = by (within_limits a && within_limits b) e
  where
    by : (t : Bool) → done (pen_values p) ≡ unless t Coordinate (done (pen_values (fresh a b))) → (t ≡ true) × (p ≡ fresh a b)
    by true f = (refl, pen_one p (fresh a b) (ap (λ (r : Answer). r.values) f))
    by false f = absurd (omega (arith, ap (λ (r : Answer). r.number) f))

-- the reply of a pen that has answered n cells, and the pen that it leaves
module _ (a b : Cell) (e : Takes a b) where
  next_cell_lem : (n : ℕ) (s : Option (Cell × Pen)) → told_next step_answer s ≡ next_answer (told a b n) → n ≤ long a b → s ≡ Some (listed a b n, told a b (n + 1))
  unfolding next_of
  next_cell_lem n s f l = next_is (told a b n) s f ∙ simp (has_cell_lem (told a b n) e l)

  next_none : (n : ℕ) (s : Option (Cell × Pen)) → told_next step_answer s ≡ next_answer (told a b n) → long a b < n → s ≡ None
  unfolding next_of
  next_none n s f l = next_is (told a b n) s f ∙ simp (past_last (told a b n) e l)

  left_at : (n m : ℕ) → n ≤ long a b + 1 → m ≡ min (n + 1) (long a b + 1) → left (told a b n) ≡ told a b m
  unfolding left
  left_at n m l f = elim (lt_or_ge (long a b) n) [ inl h ↦ last h | inr h ↦ more h ]
    where
      last : long a b < n → cond (has_cell (told a b n)) (told a b (n + 1)) (told a b n) ≡ told a b m
      last h = let g : n ≡ m = omega arith in simp (past_last (told a b n) e h) (ap (told a b) g)

      more : n ≤ long a b → cond (has_cell (told a b n)) (told a b (n + 1)) (told a b n) ≡ told a b m
      more h = let g : n + 1 ≡ m = omega arith in simp (has_cell_lem (told a b n) e h) (ap (told a b) g)

-- by value, too, the pen asked next is the one that the lent form leaves
then_left : {p : Pen} {pens : ℕ → Pen} {steps : ℕ → Option (Cell × Pen)} → Asks p pens steps → (n : ℕ) → pens (suc n) ≡ left (pens n)
then_left {pens = pens} {steps = steps} r n = (asks (pens n) (steps n) (asked_of (steps n)) (pens (suc n)) (r.reply n) refl (r.then n)).1

module _ (a b : Cell) (p : Pen) (pens : ℕ → Pen) (steps : ℕ → Option (Cell × Pen)) (e : told_of pen_answer (Ok p) ≡ begin_answer a b) (r : Asks p pens steps) where
  within : Takes a b
  within = (begins a b p e).0

  -- one cell is answered at each asking, until all are
  pens_are : (n m : ℕ) → m ≡ min n (long a b + 1) → pens n ≡ told a b m
  pens_are zero m f = let g : 0 ≡ m = omega arith in r.first ∙ (begins a b p e).1 ∙ ap (told a b) g
  pens_are (suc n) m f =
      let k = min n (long a b + 1) in
      then_left r n ∙ ap left (pens_are n k refl) ∙ left_at a b within k m (omega arith) (omega arith)

  reply_of : (n m : ℕ) → m ≡ min n (long a b + 1) → told_next step_answer (steps n) ≡ next_answer (told a b m)
  reply_of n m f = r.reply n ∙ ap next_answer (pens_are n m f)

  -- a pen that was begun lists the cells of its line
  pub begun_lists : Lists a b pens steps
  begun_lists =
      record {
        cells = λ n l.
            next_cell_lem a b within n (steps n) (reply_of n n (omega arith)) l
            ∙ ap (λ (q : Pen). Some (listed a b n, q)) (sym (pens_are (suc n) (n + 1) (omega arith)));
        finished = λ n l. next_none a b within (long a b + 1) (steps n) (reply_of n (long a b + 1) (omega arith)) (omega arith);
        stays = λ n l. pens_are (suc n) (long a b + 1) (omega arith) ∙ sym (pens_are n (long a b + 1) (omega arith));
      }

-- Both forms give the same cells: whatever pen is asked, by value and lent, the nth replies tell the same, and the pens are the same.
module _ (p : Pen) (pens lent_pens : ℕ → Pen) (steps : ℕ → Option (Cell × Pen)) (replies : ℕ → Option Cell) (r : Asks p pens steps) (l : Lends p lent_pens replies) where
  pub same_pens : (n : ℕ) → lent_pens n ≡ pens n
  same_pens zero = l.first ∙ sym r.first
  same_pens (suc n) = l.then n ∙ ap left (same_pens n) ∙ sym (then_left r n)

  pub same_cells : (n : ℕ) → replies n ≡ asked_of (steps n)
  same_cells n =
      asked_one (replies n) (asked_of (steps n))
      (l.reply n ∙ ap ask_answer (same_pens n) ∙ sym (asks (pens n) (steps n) (asked_of (steps n)) _ (r.reply n) refl refl).0)

-- the states that beginning and asking leads to: ends within the limits, and no more told than the line has cells
abbrev pub Reachable : Pen → Type 0
Reachable p = Takes p.from p.to × (p.told ≤ long p.from p.to + 1)

pub cell_left : (p : Pen) → has_cell p ≡ true → Takes p.from p.to × (p.told ≤ long p.from p.to)
unfolding has_cell
cell_left p e =
    let ends = within_limits p.from && within_limits p.to in
    let last = leb p.told (long p.from p.to) in
    let t = from_true (ends && last) e in
    (is_true ends (and_l ends last t), leb→le p.told (long p.from p.to) (and_r ends last t))

left_reachable : (p : Pen) → Reachable p → Reachable (left p)
unfolding left
left_reachable p r = by (has_cell p) refl
  where
    by : (t : Bool) → has_cell p ≡ t → Reachable (cond t (moved_on p) p)
    by true e = (r.0, omega (arith, (cell_left p e).1))
    by false e = r

reached_in : {p : Pen} → Reached p → Reachable p
reached_in (begun a b p e) = let f = begins a b p e in subst Reachable (sym f.1) (f.0, omega arith)
reached_in (asked p q c r e) = subst Reachable (sym (asks p (Some (c, q)) _ q e refl refl).1) (left_reachable p (reached_in r))
reached_in (lent p r) = left_reachable p (reached_in r)

reach : (a b : Cell) → Takes a b → (n : ℕ) → n ≤ long a b + 1 → Reached (told a b n)
unfolding begin_answer
reach a b e zero l = begun a b (fresh a b) (simp e)
reach a b e (suc n) l =
    let h : n ≤ long a b = omega arith in
    let p = told a b n in
    rw (← add-one) (asked p (moved_on p) (listed a b n) (reach a b e n (omega arith)) (answers p (listed a b n) (has_cell_lem p e h) refl))

-- the test of a state: reached exactly if both ends are within the limits and no more was told than one past the last
pub reached_is : (p : Pen) → Reached p ↔ Reachable p
reached_is p = (reached_in, λ r. reach p.from p.to r.0 p.told r.1)

cell_reached : (p : Pen) → has_cell p ≡ true → Reached p
cell_reached p e = let h = cell_left p e in (reached_is p).1 (h.0, omega (arith, h.1))

-- a pen answers a cell, and not "finished", exactly if its state is reached and a cell is left
pub answers_cell : (p : Pen) → (next_answer p ≡ done [] → ⊥) ↔ (Reached p × (p.told ≤ long p.from p.to))
answers_cell p = (λ f. by f (has_cell p) refl, λ r f. none (has_cell_lem p (reached_in r.0).0 r.1) f)
  where
    by : (next_answer p ≡ done [] → ⊥) → (t : Bool) → has_cell p ≡ t → Reached p × (p.told ≤ long p.from p.to)
    by f true e = (cell_reached p e, (cell_left p e).1)
    by f false e = absurd (f (sym (finishes p e)))

    none : has_cell p ≡ true → next_answer p ≡ done [] → ⊥
    none e f = omega (arith, ap (λ (r : Answer). length r.values) (answers p (next_cell p) e refl ∙ f))

-- A pen in a state that no beginning and asking leads to answers "finished" too and stays the same.
pub foreign_finished : (p : Pen) → (Reached p → ⊥) → (next_answer p ≡ done []) × (ask_answer p ≡ done []) × (left p ≡ p)
unfolding next_answer ask_answer left
foreign_finished p f =
    let e : has_cell p ≡ false = is_false (has_cell p) (λ t. f (cell_reached p (is_true (has_cell p) t))) in
    simp e (refl, refl, refl)

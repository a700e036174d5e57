-- The laws of `Paints` and `Draws`.
use Prim.Native.Nat.{ℕ}
use mathlib.Core.Path.{◌≡◌, refl, sym, subst, ap, ◌∙◌}
use mathlib.Core.List.{List}
use mathlib.Core.Bool.{Bool, true, false, cond}
use lib.ListN.{length}
use Rattle.sheet.specs.Repaint.{nothing}
use Rattle.sheet.specs.Reply.{Answer, refuse, with_box, is_done, settled}
use Rattle.sheet.specs.Drawing.{Inked, paint_all, box_all, Drawing, Paints, telling, Draws}
use Rattle.sheet.specs.declared.Shape.{Shape}
use Rattle.sheet.specs.declared.refusal.Refusal.{Refusal}
use Rattle.sheet.specs.declared.repaint.Rectangle.{Rectangle}
use Rattle.sheet.proofs.Unique.{number_not_0, one_value}

module _ (d : Drawing) (s : List ℕ) where
  -- an answer that is no 0 leaves the bytes as they were lent
  pub keeps : (a : Answer) → is_done a ≡ false → d.answer (length s) ≡ a → Paints d s a s
  keeps a n e = record { tells = sym e; leaves = simp (e, n) }

  -- one that is 0 leaves them painted
  pub paints : (a : Answer) (t : List ℕ) → is_done a ≡ true → d.answer (length s) ≡ a → t ≡ paint_all d.shape d.figures s → Paints d s a t
  paints a t n e p = record { tells = sym e; leaves = simp (e, n) p }

  pub drawn : (a : Answer) (t : List ℕ) → Paints d s a t → is_done (d.answer (length s)) ≡ true → t ≡ paint_all d.shape d.figures s
  drawn a t h e = h.leaves ∙ simp e

  -- two replies to one asking on the same bytes are equal, and so are the bytes they leave
  pub draws_one : (a b : Answer) (t u : List ℕ) → Paints d s a t → Paints d s b u → (a ≡ b) × (t ≡ u)
  draws_one a b t u h g = (one_value a b _ h.tells g.tells, one_value t u _ h.leaves g.leaves)

-- a drawing with another answer that is the same on these bytes
pub answer_as : (k : Shape) (figures : List Inked) (f g : ℕ → Answer) (s : List ℕ) (b : Answer) (t : List ℕ) → f (length s) ≡ g (length s)
    → Paints (record { shape = k; answer = f; figures = figures }) s b t → Paints (record { shape = k; answer = g; figures = figures }) s b t
answer_as k figures f g s b t e h =
    record { tells = h.tells ∙ e; leaves = h.leaves ∙ ap (λ (a : Answer). settled a (paint_all k figures s) s) e }

-- what a drawing tells, with its rectangle
module _ (d : Drawing) (s : List ℕ) where
  answered : (a : Answer) (r : Rectangle) → d.answer (length s) ≡ a → settled a (box_all d.shape d.figures) nothing ≡ r
      → (telling d).answer (length s) ≡ with_box a r
  answered a r e f = ap (λ (b : Answer). with_box b (settled b (box_all d.shape d.figures) nothing)) e ∙ ap (with_box a) f

  pub kept : (a b : Answer) → b ≡ with_box a nothing → is_done a ≡ false → d.answer (length s) ≡ a → Draws d s b s
  kept a b f n e = keeps (telling d) s b (ap is_done f ∙ n) (answered a nothing e (ap (λ (t : Bool). cond t (box_all d.shape d.figures) nothing) n) ∙ sym f)

  pub refuses : (r : Refusal) → d.answer (length s) ≡ refuse r → Draws d s (refuse r) s
  refuses r e = kept (refuse r) (refuse r) refl (number_not_0 r) e

  pub draws : (a : Answer) (box : Rectangle) (t : List ℕ) → is_done a ≡ true → d.answer (length s) ≡ a → t ≡ paint_all d.shape d.figures s
      → box ≡ box_all d.shape d.figures → Draws d s (with_box a box) t
  draws a box t n e p q =
      paints (telling d) s (with_box a box) t n (answered a box e (ap (λ (t : Bool). cond t (box_all d.shape d.figures) nothing) n ∙ sym q)) p

  -- the rectangle that was told
  pub box_told : (b : Answer) (t : List ℕ) → Draws d s b t → is_done (d.answer (length s)) ≡ true → b.box ≡ box_all d.shape d.figures
  box_told b t h n = ap (λ (a : Answer). a.box) h.tells ∙ ap (λ (t : Bool). cond t (box_all d.shape d.figures) nothing) n

  -- an equal drawing promises the same
  pub draws_as : (e : Drawing) (a : Answer) (t : List ℕ) → d ≡ e → Draws d s a t → Draws e s a t
  draws_as e a t p h = subst (λ (e : Drawing). Draws e s a t) p h

  pub draws_same : (e : Drawing) → d ≡ e → (a b : Answer) (t u : List ℕ) → Draws d s a t → Draws e s b u → (a ≡ b) × (t ≡ u)
  draws_same e p a b t u h g = draws_one (telling d) s a b t u h (subst (λ (e : Drawing). Draws e s b u) (sym p) g)

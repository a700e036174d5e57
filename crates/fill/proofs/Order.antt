-- Territories may be filled in either order.
use Prim.Native.Nat.{ℕ}
use mathlib.Core.Path.{◌≡◌, refl, sym, ap, ◌∙◌}
use mathlib.Core.List.{List, [], ◌∷◌}
use mathlib.Core.Logic.{◌↔◌}
use mathlib.Core.Bool.{Bool, true, false}
use lib.IntN.{pos}
use lib.Dec.{T}
use Rattle.laws.proofs.Tests.{is_true}
use Rattle.sheet.specs.Sheet.{paint, cells_on}
use Rattle.sheet.specs.Reply.{Answer, done, is_done}
use Rattle.sheet.specs.declared.Cell.{Cell}
use Rattle.sheet.specs.declared.Shape.{Shape}
use Rattle.sheet.proofs.Paint.{paint_swap}
use Rattle.fill.specs.Territory.{Open, Reach}
use Rattle.fill.specs.Fill.{Fills}
use Rattle.fill.proofs.Reaching.{reach_open, reach_as, tests_same}
use Rattle.fill.proofs.Outcome.{finished, cell_after}
use Rattle.fill.proofs.Territories.{in_common}

-- A fill in an ink other than the boundary's changes no later reaching: what it set was open before, and is open still.
module _ {k : Shape} {a : Cell} {b i p : ℕ} {lent : List ℕ} {r : Answer} {s : List ℕ}
    (F : Fills k a b i p lent r s) (d : is_done r ≡ true) (other : i ≡ b → ⊥) where
  pub open_after : (c : Cell) → Open k b lent c ↔ Open k b s c
  open_after c = (there (F.territory c) refl, back (F.territory c) refl)
    where
      there : (t : Bool) → F.territory c ≡ t → Open k b lent c → Open k b s c
      there true e o = record { on = o.on; other = λ q. other (sym (cell_after F d c o.on true e) ∙ q) }
      there false e o = record { on = o.on; other = λ q. o.other (sym (cell_after F d c o.on false e) ∙ q) }

      back : (t : Bool) → F.territory c ≡ t → Open k b s c → Open k b lent c
      back true e o = reach_open ((F.decides d).only c e)
      back false e o = record { on = o.on; other = λ q. o.other (cell_after F d c o.on false e ∙ q) }

  pub reach_after : (c e : Cell) → Reach k b lent c e ↔ Reach k b s c e
  reach_after c e = (reach_as (λ c. (open_after c).0), reach_as (λ c. (open_after c).1))

-- Two fills with one boundary ink in inks other than it, one after the other in either order, all done:
module _ {k : Shape} {a c : Cell} {b t u p₁ p₂ p₃ p₄ : ℕ} {lent : List ℕ} {r₁ r₂ r₃ r₄ : Answer} {s₁ s₁₂ s₂ s₂₁ : List ℕ}
    (F₁ : Fills k a b t p₁ lent r₁ s₁) (F₂ : Fills k c b u p₂ s₁ r₂ s₁₂)
    (G₁ : Fills k c b u p₃ lent r₃ s₂) (G₂ : Fills k a b t p₄ s₂ r₄ s₂₁)
    (t_other : t ≡ b → ⊥) (u_other : u ≡ b → ⊥)
    (d₁ : is_done r₁ ≡ true) (d₂ : is_done r₂ ≡ true) (d₃ : is_done r₃ ≡ true) (d₄ : is_done r₄ ≡ true) where
  test_a : F₁.territory ≡ G₂.territory
  test_a = let n = reach_after G₁ d₃ u_other a in tests_same (F₁.decides d₁) (G₂.decides d₄) (λ e. (n e).0) (λ e. (n e).1)

  test_c : F₂.territory ≡ G₁.territory
  test_c = let n = reach_after F₁ d₁ t_other c in tests_same (F₂.decides d₂) (G₁.decides d₃) (λ e. (n e).1) (λ e. (n e).0)

  -- each tells the same number in both orders,
  pub same_numbers : (r₁ ≡ r₄) × (r₂ ≡ r₃)
  same_numbers = (
    (finished F₁ d₁).tells ∙ ap (λ (f : Cell → Bool). done (pos (cells_on k f) ∷ [])) test_a ∙ sym (finished G₂ d₄).tells,
    (finished F₂ d₂).tells ∙ ap (λ (f : Cell → Bool). done (pos (cells_on k f) ∷ [])) test_c ∙ sym (finished G₁ d₃).tells,
  )

  -- and where the territories are two, the bytes left are the same.
  pub either_order : (Reach k b lent a c → ⊥) → (s₁₂ ≡ s₂₁) × (r₁ ≡ r₄) × (r₂ ≡ r₃)
  either_order two = (
    (finished F₂ d₂).leaves
        ∙ ap (paint k u F₂.territory) (finished F₁ d₁).leaves
        ∙ paint_swap k (record { ink = t; figure = F₁.territory }) (record { ink = u; figure = F₂.territory }) lent apart
        ∙ (λ i. paint k t (test_a i) (paint k u (test_c i) lent))
        ∙ sym ((finished G₂ d₄).leaves ∙ ap (paint k t G₂.territory) (finished G₁ d₃).leaves),
    same_numbers.0,
    same_numbers.1,
  )
    where
      apart : (e : Cell) → T (F₁.territory e) → T (F₂.territory e) → ⊥
      apart e m n =
          two (in_common F₁ G₁ d₁ d₃ e (is_true (F₁.territory e) m) (sym (λ i. test_c i e) ∙ is_true (F₂.territory e) n))

-- Territories: one from any of its cells, none in part of another, and one for each open cell.
use Prim.Native.Nat.{ℕ}
use mathlib.Core.Path.{◌≡◌, refl, sym, ap, ◌∙◌}
use mathlib.Core.List.{List, [], ◌∷◌}
use mathlib.Core.Logic.{◌⊎◌, inl, inr}
use mathlib.Core.Bool.{Bool, true, false, true≢false}
use lib.IntN.{pos}
use Rattle.sheet.specs.Sheet.{paint, cells_on}
use Rattle.sheet.specs.Reply.{Answer, done, is_done}
use Rattle.sheet.specs.declared.Cell.{Cell}
use Rattle.sheet.specs.declared.Shape.{Shape}
use Rattle.fill.specs.Territory.{Open, Reach, here, Territory}
use Rattle.fill.specs.Fill.{Fills}
use Rattle.fill.proofs.Reaching.{reach_then, reach_back, tests_same}
use Rattle.fill.proofs.Outcome.{finished}

-- the tests of two starts, one of which can be reached from the other
pub tests_from : {k : Shape} {b : ℕ} {lent : List ℕ} {a c : Cell} {f g : Cell → Bool} → Reach k b lent a c
    → Territory k b lent a f → Territory k b lent c g → f ≡ g
tests_from r p q = tests_same p q (λ d n. reach_then (reach_back r) n) (λ d n. reach_then r n)

-- Two fills of one sheet as it was lent, with one boundary ink, both done, from any starts, in any inks, with any work slices:
module _ {k : Shape} {a c : Cell} {b i j p q : ℕ} {lent : List ℕ} {r r' : Answer} {s s' : List ℕ}
    (F : Fills k a b i p lent r s) (G : Fills k c b j q lent r' s') (d : is_done r ≡ true) (d' : is_done r' ≡ true) where
  -- where both have a cell, the one start can be reached from the other,
  pub in_common : (e : Cell) → F.territory e ≡ true → G.territory e ≡ true → Reach k b lent a c
  in_common e m n = reach_then ((F.decides d).only e m) (reach_back ((G.decides d').only e n))

  -- so that no cell has two commanders: the territories are one,
  pub one_commander : (e : Cell) → F.territory e ≡ true → G.territory e ≡ true → F.territory ≡ G.territory
  one_commander e m n = tests_from (in_common e m n) (F.decides d) (G.decides d')

  -- and any two are the same or have no cell in common.
  pub territories_apart : (F.territory ≡ G.territory) ⊎ ((e : Cell) → F.territory e ≡ true → G.territory e ≡ true → ⊥)
  territories_apart = by (F.territory c) refl
    where
      by : (t : Bool) → F.territory c ≡ t
          → (F.territory ≡ G.territory) ⊎ ((e : Cell) → F.territory e ≡ true → G.territory e ≡ true → ⊥)
      by true m = inl (tests_from ((F.decides d).only c m) (F.decides d) (G.decides d'))
      by false m = inr (λ e u v. true≢false (sym ((F.decides d).all c (in_common e u v)) ∙ m))

-- No open cell is without one: it is in the territory that is filled from it.
pub commanded : {k : Shape} {c : Cell} {b i p : ℕ} {lent : List ℕ} {r : Answer} {s : List ℕ} (F : Fills k c b i p lent r s)
    → is_done r ≡ true → Open k b lent c → F.territory c ≡ true
commanded {c = c} F d o = (F.decides d).all c (here o)

-- A territory is filled alike from any of its cells: with one ink, the number told and the bytes left are the same.
pub same_territory : {k : Shape} {a c : Cell} {b i p q : ℕ} {lent : List ℕ} {r r' : Answer} {s s' : List ℕ} → Reach k b lent a c
    → Fills k a b i p lent r s → Fills k c b i q lent r' s' → is_done r ≡ true → is_done r' ≡ true → (r ≡ r') × (s ≡ s')
same_territory {k} {i = i} {lent = lent} n F G d d' =
    let y = finished F d in
    let z = finished G d' in
    let e = tests_from n y.decides z.decides in (
      y.tells ∙ ap (λ (f : Cell → Bool). done (pos (cells_on k f) ∷ [])) e ∙ sym z.tells,
      y.leaves ∙ ap (λ (f : Cell → Bool). paint k i f lent) e ∙ sym z.leaves,
    )

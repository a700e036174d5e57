-- A line whose ends are one cell, or touch by a side or a corner, is its ends.
use Rattle.std.proofs.Common.{◌≡◌, ℕ, zero, suc, ◌+◌, ◌≤◌, Bool, true, ◌&&◌, ◌||◌, T, leb, ◌⊎◌, sym, refl, ap, ◌∙◌, subst, inl, inr, arith, leb-true}
use Rattle.laws.proofs.Apart.{apart, apart_is}
use Rattle.laws.proofs.Tests.{or_l, or_r, or_e, same, halves}
use Rattle.sheet.specs.Sheet.{is_cell}
use Rattle.sheet.specs.Inner.{unmoved, unmoved_cell}
use Rattle.sheet.specs.declared.Cell.{Cell}
use Rattle.sheet.specs.declared.Spot.{Spot}
use Rattle.sheet.proofs.Cells.{is_cell→, is_cell_refl}
use Rattle.sheet.proofs.Limits.{stands_parts}
use Rattle.line.specs.Rule.{long, on_line}
use Rattle.line.specs.Listing.{listed}
use Rattle.line.proofs.Bridge.{longer_le}
use Rattle.line.proofs.Listed.{listed_first, listed_last}
use Rattle.line.proofs.OnLine.{listed_on, on_listed}

module _ (a b : Cell) (l : long a b ≤ 1) (d : Cell) where
  -- a cell of the line is one of its ends
  is_end : (n : ℕ) → n ≤ long a b → d ≡ listed a b n → T (is_cell a d || is_cell b d)
  is_end zero m e = or_l (is_cell a d) (is_cell b d) (subst (λ (c : Cell). T (is_cell a c)) (sym (e ∙ listed_first a b)) (is_cell_refl a))
  is_end (suc n) m e =
      let f : suc n ≡ long a b = omega arith in
      or_r (is_cell a d) (is_cell b d) (subst (λ (c : Cell). T (is_cell b c)) (sym (e ∙ ap (listed a b) f ∙ listed_last a b)) (is_cell_refl b))

  -- and each end is a cell of it
  end_is : (c : Cell) (n : ℕ) → n ≤ long a b → listed a b n ≡ c → T (is_cell c d) → T (on_line a b d)
  end_is c n m e t = subst (λ (d : Cell). T (on_line a b d)) (e ∙ sym (is_cell→ c d t)) (listed_on a b n m)

  pub on_touching : on_line a b d ≡ (is_cell a d || is_cell b d)
  on_touching =
      same _ _ (λ t. let f = on_listed a b d t in is_end f.number f.within f.is_cell)
      (λ t. by (or_e (is_cell a d) (is_cell b d) t))
    where
      by : T (is_cell a d) ⊎ T (is_cell b d) → T (on_line a b d)
      by (inl t) = end_is a 0 (omega arith) (listed_first a b) t
      by (inr t) = end_is b (long a b) (omega arith) (listed_last a b) t

-- each end of a line is a cell of it
pub line_first : (a b : Cell) → T (on_line a b a)
line_first a b = subst (λ (d : Cell). T (on_line a b d)) (listed_first a b) (listed_on a b 0 (omega arith))

pub line_last : (a b : Cell) → T (on_line a b b)
line_last a b = subst (λ (d : Cell). T (on_line a b d)) (listed_last a b) (listed_on a b (long a b) (omega arith))

-- spots whose coordinates are the same or neighbours stand for cells that are one, or touch
abbrev pub near : ℕ → ℕ → Bool
near m n = leb m (n + 1) && leb n (m + 1)

apart_low : (m n : ℕ) → near m n ≡ true → apart (unmoved m) (unmoved n) ≤ 1
apart_low m n e =
    let h = halves (leb m (n + 1)) (leb n (m + 1)) e in
    let a = stands_parts m (unmoved m) refl in
    let b = stands_parts n (unmoved n) refl in
    omega (arith, leb-true m (n + 1) h.0, leb-true n (m + 1) h.1, apart_is (unmoved m) (unmoved n))

pub spots_touch : (p q : Spot) → near p.x q.x ≡ true → near p.y q.y ≡ true → long (unmoved_cell p) (unmoved_cell q) ≤ 1
spots_touch p q x y = longer_le _ _ 1 (apart_low p.x q.x x) (apart_low p.y q.y y)

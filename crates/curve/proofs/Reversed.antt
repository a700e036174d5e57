-- The control points reversed mark the same cells.
use Rattle.std.proofs.Common.{◌≡◌, ℕ, ◌+◌, ◌-◌, ◌^◌, ◌<◌, Bool, T, List, reverse, length, sym, ap, ◌∙◌, subst, ap₂, arith}
use Rattle.laws.specs.Below.{any}
use Rattle.laws.proofs.Below.{any_at, any→}
use Rattle.laws.proofs.Tests.{same}
use Rattle.sheet.specs.declared.Cell.{Cell}
use Rattle.line.specs.Rule.{on_line}
use Rattle.line.proofs.OnLine.{on_line_either}
use Rattle.curve.specs.Rule.{point_at, on_curve}
use Rattle.curve.proofs.Points.{point_reversed}

module _ (ps : List Cell) (some : 0 < length ps) (n : ℕ) (d : Cell) where
  abbrev piece : List Cell → ℕ → Bool
  piece qs i = on_line (point_at qs n i) (point_at qs n (i + 1)) d

  -- the piece after the ith point is the one before the (n − i)th of the points reversed
  piece_reversed : (i : ℕ) → i < n → piece ps i ≡ piece (reverse ps) (n - (i + 1))
  piece_reversed i h =
      let e : n - (i + 1) + 1 ≡ n - i = omega arith in
      on_line_either (point_at ps n i) (point_at ps n (i + 1)) d
      ∙ ap₂ (λ (p q : Cell). on_line p q d)
      (sym (point_reversed ps n (i + 1) some (omega arith)))
      (sym (ap (point_at (reverse ps) n) e ∙ point_reversed ps n i some (omega arith)))

  also_reversed : T (any n (piece ps)) → T (any n (piece (reverse ps)))
  also_reversed t =
      let f = any→ n _ t in
      any_at n _ (n - (f.at + 1)) (omega (arith, f.below)) (subst T (piece_reversed f.at f.below) f.passes)

  and_back : T (any n (piece (reverse ps))) → T (any n (piece ps))
  and_back t =
      let f = any→ n _ t in
      let j = n - (f.at + 1) in
      let e : n - (j + 1) ≡ f.at = omega (arith, f.below) in
      any_at n _ j (omega (arith, f.below)) (subst T (sym (piece_reversed j (omega (arith, f.below)) ∙ ap (piece (reverse ps)) e)) f.passes)

-- from either end
pub on_curve_either : (ps : List Cell) (s : ℕ) (d : Cell) → 0 < length ps → on_curve ps s d ≡ on_curve (reverse ps) s d
unfolding on_curve
on_curve_either ps s d some = same _ _ (also_reversed ps some (2 ^ s) d) (and_back ps some (2 ^ s) d)

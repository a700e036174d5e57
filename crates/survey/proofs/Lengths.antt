-- The limits of two lengths that are semi-axes.
use mathlib.Core.Path.{◌≡◌}
use mathlib.Core.Bool.{true, ◌&&◌}
use lib.IntN.{ℤ, pos, nat_abs}
use lib.Signed.{le_z}
use Rattle.laws.proofs.Tests.{halves}
use Rattle.sheet.specs.Sheet.{axes}
use Rattle.survey.specs.Metres.{are_semi_axes}

pub axes_within : (a b : ℤ) → are_semi_axes a b ≡ true → axes (nat_abs a) (nat_abs b) ≡ true
unfolding are_semi_axes
axes_within a b e = (halves (le_z (pos 0) a && le_z (pos 0) b) (axes (nat_abs a) (nat_abs b)) e).1

-- What becomes of a lent sheet.
use Rattle.std.specs.Prelude.{ℕ, ◌≡◌, Bool}
use Rattle.sheet.specs.Sheet.{paint}
use Rattle.sheet.specs.declared.Cell.{Cell}
use Rattle.sheet.specs.declared.Sheet.{Sheet}

-- the same bytes are lent, of the same shape, and the figure is painted onto them
pub record Inks (ink : ℕ) (figure : Cell → Bool) (old new : Sheet) : Type 0 where
  pub same : new.cells.ghost_name ≡ old.cells.ghost_name
  pub shape : new.shape ≡ old.shape
  pub cells : new.cells.now ≡ paint old.shape ink figure old.cells.now

-- `pistonwool::picture::pw_read_pbm` meets its contract.
use mathlib.Core.Path.{◌∙◌}
use Rattle.pistonwool.proofs.Pictured.{picture_number}
use Rattle.pistonwool.proofs.Told.{test_number}
use Rattle.pistonwool.proofs.picture.pw_read_pbm.Goals as goal

pub returns : goal.returns
returns c = picture_number _ _ _ _ _ _ c.read.ensures (c.number_of.ensures ∙ test_number _)

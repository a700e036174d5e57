-- `pistonwool::file::pw_file` meets its contract.
use Rattle.pistonwool.proofs.Files.{draws_value}
use Rattle.pistonwool.proofs.file.pw_file.Goals as goal

pub returns : goal.returns
returns c =
    draws_value _ _ _ _ _ _ _ _ _ c.draw_file-drawn.ensures c.tell_file.ensures.number c.tell_file.ensures.value c.tell_file.ensures.rectangle

-- `record::writing::put_word` meets its contract.
use Prim.Native.Nat.{◌+◌, ◌/◌, ◌%◌, ◌≤◌}
use mathlib.Core.Path.{◌≡◌, ◌∙◌}
use mathlib.Core.List.{[], ◌∷◌}
use native.Mathlib.Omega.{arith}
use lib.ListN.{length}
use Rattle.laws.proofs.Written.{put_part}
use Rattle.record.specs.Layout.{bytes_of}
use Rattle.record.proofs.writing.put_word.Goals as goal

pub returns : goal.returns
returns c =
    let a = c.args in
    let low : a.n % 65536 % 256 ≡ a.n % 256 = omega arith in
    let high : a.n % 65536 / 256 % 256 ≡ a.n / 256 % 256 = omega arith in
    let room : a.at + length (bytes_of 2 a.n) ≤ length a.buffer.now = omega arith in
    put_part a.buffer.now (bytes_of 2 a.n) _ a.at room (c.copy_from_slice.ensures.after ∙ c.to_le_bytes.ensures ∙ (λ i. low i ∷ high i ∷ []))

-- `record::signed_at` meets its contract.
use Prim.Native.Nat.{◌+◌}
use mathlib.Core.Path.{◌≡◌, ap, ◌∙◌}
use native.Mathlib.Omega.{arith}
use mir.Syntax.{w16, w32}
use mir.Val.{to_z, of_z}
use Rattle.std.proofs.lemmas.Int.{ints}
use Rattle.record.specs.Layout.{word_value_at}
use Rattle.record.proofs.Words.{word_signed}
use Rattle.record.proofs.signed_at.Goals as goal

pub returns : goal.returns
returns c =
    let a = c.args in
    let w = word_value_at a.bytes.now a.k in
    let read : c.from_le_bytes.result ≡ to_z w16 w = c.from_le_bytes.ensures ∙ ap (to_z w16) (omega arith) in
    let same : to_z w32 (of_z w32 c.from.result) ≡ c.from_le_bytes.result = omega (arith, ints, c.from.ensures) in
    same ∙ read ∙ word_signed w (omega (arith, c.type_inv.bytes a.k, c.type_inv.bytes (a.k + 1)))

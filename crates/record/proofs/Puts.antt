-- Bytes put into a buffer one after another are put at once; and those of a lifted coordinate are its own.
use Prim.Native.Nat.{ℕ, suc, ◌+◌, ◌-◌, ◌/◌, ◌%◌}
use mathlib.Core.Path.{◌≡◌, sym, ap, ◌∙◌}
use mathlib.Core.List.{List, [], ◌∷◌, ◌++◌}
use mathlib.Core.Bool.{true}
use native.Mathlib.Nat.{add-mod_right, add-mul-mod_self_left, add-mul-div_left}
use native.Mathlib.Omega.{arith}
use lib.ListN.{length}
use lib.IntN.{ℤ, pos, negsuc}
use lib.Seq.{sets}
use Rattle.laws.proofs.Written.{sets_append}
use Rattle.sheet.specs.Sheet.{coordinate, within_limits}
use Rattle.sheet.specs.Inner.{moved, moved_cell}
use Rattle.sheet.specs.declared.Cell.{Cell}
use Rattle.sheet.specs.declared.Spot.{Spot}
use Rattle.sheet.proofs.Limits.{limits_x, limits_y, moved_is}
use Rattle.record.specs.Layout.{unsigned, bytes_of}
use Rattle.record.specs.Inner.{cell_bytes}

-- some, and then others after them
pub then : (s : List ℕ) {t u : List ℕ} (vs ws : List ℕ) (i : ℕ) → t ≡ sets s i vs → u ≡ sets t (i + length vs) ws → u ≡ sets s i (vs ++ ws)
then s vs ws i f g = rw (g, f) (sym (sets_append vs ws s i))

-- a coordinate that is lifted has the lowest two bytes of its word
lifted_bytes : (z : ℤ) → coordinate z ≡ true → bytes_of 2 (moved z) ≡ bytes_of 2 (unsigned z)
lifted_bytes (pos n) e =
    let m : moved (pos n) ≡ n + 65536 = moved_is (pos n) e ∙ omega arith in
    let low : (n + 65536) % 256 ≡ n % 256 = add-mul-mod_self_left n 256 256 in
    let above : (n + 65536) / 256 ≡ n / 256 + 256 = add-mul-div_left n 256 (omega arith) in
    let high : (n + 65536) / 256 % 256 ≡ n / 256 % 256 = ap (λ (q : ℕ). q % 256) above ∙ add-mod_right (n / 256) 256 in
    rw m (λ i. low i ∷ high i ∷ [])
lifted_bytes (negsuc n) e =
    let m : moved (negsuc n) ≡ 65536 - suc n = moved_is (negsuc n) e ∙ omega arith in
    ap (bytes_of 2) m

pub cell_bytes_lem : (c : Cell) (p : Spot) → p ≡ moved_cell c → within_limits c ≡ true → bytes_of 2 p.x ++ bytes_of 2 p.y ≡ cell_bytes c
cell_bytes_lem c p e l =
    let x : bytes_of 2 p.x ≡ bytes_of 2 (unsigned c.x) = ap (λ (p : Spot). bytes_of 2 p.x) e ∙ lifted_bytes c.x (limits_x c l) in
    let y : bytes_of 2 p.y ≡ bytes_of 2 (unsigned c.y) = ap (λ (p : Spot). bytes_of 2 p.y) e ∙ lifted_bytes c.y (limits_y c l) in
    λ i. x i ++ y i

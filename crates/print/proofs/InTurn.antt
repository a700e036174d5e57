-- One read after another.
use Rattle.std.proofs.Common.{ℕ, ◌+◌, ◌≤◌, ◌≡◌, List, ◌++◌, length, take, ap, sym, ◌∙◌, Option, None, Some}
use Rattle.std.proofs.lemmas.List.{append_assoc, length-take-le, take-append-le}
use Rattle.std.proofs.Math.Seq.{take-append-add}
use Rattle.std.specs.Io.KnownBytes.{Consumes}
use borrow.Rule.Slice.PartMut.{put_mid, post_of}

-- what two reads in turn consume
pub consumes_then : (x y z : Option (List ℕ)) (bs cs : List ℕ) → Consumes x y bs → Consumes y z cs → Consumes x z (bs ++ cs)
consumes_then None y z bs cs h k = tt
consumes_then (Some xs) None z bs cs h k = absurd h
consumes_then (Some xs) (Some ys) None bs cs h k = absurd k
consumes_then (Some xs) (Some ys) (Some zs) bs cs h k = h ∙ ap (λ (t : List ℕ). bs ++ t) k ∙ sym (append_assoc bs cs zs)

-- what stands at the front of the room after a read into the rest of it
pub taken : (a m k : ℕ) (room ys : List ℕ) → a ≤ length room → m ≤ length ys → take (a + m) (put_mid a k room ys) ≡ take a room ++ take m ys
taken a m k room ys h l =
    ap (λ (n : ℕ). take (n + m) (put_mid a k room ys)) (sym (length-take-le a room h))
    ∙ take-append-add (take a room) (ys ++ post_of a k room) m
    ∙ ap (λ (z : List ℕ). take a room ++ z) (take-append-le m ys (post_of a k room) l)

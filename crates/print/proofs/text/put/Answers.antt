-- The bytes before the part, the part, and the bytes after it.
use Rattle.std.proofs.Common.{arith, ℕ, ◌+◌, ◌-◌, List, ◌++◌, length, ap, sym, ◌∙◌, take}
use Rattle.std.proofs.lemmas.List.{append_assoc}
use Rattle.std.proofs.lemmas.List.Edits.{sets-eq}
use borrow.Rule.Slice.PartMut.{put_mid, Post-is}
use Rattle.print.proofs.text.put.Goals as goal

pub returns-clause-out_after : goal.returns-clause-out_after
returns-clause-out_after c =
    let at = c.args.at in
    let xs = c.args.out.now in
    let vs = c.args.part.now in
    let end = at + length vs in
    ap (λ (ys : List ℕ). put_mid at (end - at) xs ys) c.copy_from_slice.ensures.after
    ∙ ap (λ (z : List ℕ). take at xs ++ (vs ++ z)) (Post-is at end xs (omega arith))
    ∙ sym (append_assoc (take at xs) vs _)
    ∙ sym (sets-eq vs xs at c.requires)

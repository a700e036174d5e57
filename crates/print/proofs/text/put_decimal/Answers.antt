-- What is written is the number's decimal digits.
use Rattle.std.proofs.Common.{ℕ, ◌+◌, List, length, ap, ◌∙◌}
use Rattle.std.proofs.lemmas.List.Edits.{sets}
use Rattle.print.proofs.Digits.{fewest_decimal}
use Rattle.print.proofs.text.put_decimal.Goals as goal

pub returns-clause-value : goal.returns-clause-value
returns-clause-value c =
    let count = c.decimal-count in
    c.put.ensures.value ∙ ap (λ (t : List ℕ). c.args.at + length t) (count.ensures.digits ∙ fewest_decimal c.args.n count.result count.ensures.len)

pub returns-clause-out_after : goal.returns-clause-out_after
returns-clause-out_after c =
    let count = c.decimal-count in
    c.put.ensures.out_after ∙ ap (λ (t : List ℕ). sets c.args.out.now c.args.at t) (count.ensures.digits ∙ fewest_decimal c.args.n count.result count.ensures.len)

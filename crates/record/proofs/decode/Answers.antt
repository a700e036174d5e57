-- `record::decode` meets its contract.
use mathlib.Core.Path.{sym, ap, ◌∙◌}
use Rattle.record.specs.Reading.{read_of}
use Rattle.record.specs.Inner.{read_decoded}
use Rattle.record.proofs.Rows.{line_decoded, circle_decoded, ellipse_decoded, curve_decoded, cubic_decoded}
use Rattle.record.proofs.Table.{kind_1, kind_2, kind_3, kind_4, kind_5, no_kind}
use Rattle.record.proofs.decode.Goals as goal

pub returns-in-1-clause-reads : goal.returns-in-1-clause-reads
returns-in-1-clause-reads c = λ next.
    let a = c.args in
    ap (read_decoded a.at next a.payload.now) c.line.ensures ∙ line_decoded a.payload.now a.at next ∙ ap read_of (sym (kind_1 _ _ _ next c.in-1.is))

pub returns-in-2-clause-reads : goal.returns-in-2-clause-reads
returns-in-2-clause-reads c = λ next.
    let a = c.args in
    ap (read_decoded a.at next a.payload.now) c.circle.ensures ∙ circle_decoded a.payload.now a.at next ∙ ap read_of (sym (kind_2 _ _ _ next c.in-2.is))

pub returns-in-3-clause-reads : goal.returns-in-3-clause-reads
returns-in-3-clause-reads c = λ next.
    let a = c.args in
    ap (read_decoded a.at next a.payload.now) c.ellipse.ensures ∙ ellipse_decoded a.payload.now a.at next ∙ ap read_of (sym (kind_3 _ _ _ next c.in-3.is))

pub returns-in-4-clause-reads : goal.returns-in-4-clause-reads
returns-in-4-clause-reads c = λ next.
    let a = c.args in
    ap (read_decoded a.at next a.payload.now) c.curve.ensures ∙ curve_decoded a.payload.now a.at next ∙ ap read_of (sym (kind_4 _ _ _ next c.in-4.is))

pub returns-in-5-clause-reads : goal.returns-in-5-clause-reads
returns-in-5-clause-reads c = λ next.
    let a = c.args in
    ap (read_decoded a.at next a.payload.now) c.cubic.ensures ∙ cubic_decoded a.payload.now a.at next ∙ ap read_of (sym (kind_5 _ _ _ next c.in-5.is))

pub returns-in_default-clause-reads : goal.returns-in_default-clause-reads
returns-in_default-clause-reads c = λ next.
    let rest = c.in_default.in_default-own.rest in
    ap read_of (sym (no_kind _ _ _ next rest.0.0.0.0.1 rest.0.0.0.1 rest.0.0.1 rest.0.1 rest.1))

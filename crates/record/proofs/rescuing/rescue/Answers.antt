-- `record::rescuing::rescue` meets its contract.
use Rattle.record.proofs.Saving.{no_bytes, few_offsets, few_numbers}
use Rattle.record.proofs.rescuing.rescue.Goals as goal

pub returns-then-copy-bytes : goal.returns-then-copy-bytes
returns-then-copy-bytes c = no_bytes _ _ c.if-copy-bytes.true

pub returns-then-offsets-bytes : goal.returns-then-offsets-bytes
returns-then-offsets-bytes c = few_offsets _ _ c.if-copy-bytes.false c.if-offsets-bytes.true

pub returns-then-numbers-bytes : goal.returns-then-numbers-bytes
returns-then-numbers-bytes c = few_numbers _ _ c.if-copy-bytes.false c.if-offsets-bytes.false c.if-numbers-bytes.true

use Rattle.rv32_asm.specs.Labels.{marks_of}
use Rattle.rv32_asm.proofs.Words.{whole}
use Rattle.rv32_asm.proofs.block.assemble.Goals as goal

pub returns : goal.returns
returns c = whole (λ v. v.items) c.words.result c.args.room c.as_bytes-bytes.result.now c.args.text.now (marks_of c.in_ok-labels.labels) c.as_bytes-bytes.ensures.value c.in_ok-labels.ensures.found c.words.ensures

use Rattle.std.proofs.Common.{◌<◌, length, ap, sym, ◌∙◌, arith}
use Rattle.cache_ident.proofs.RollLemmas.{same_ident}
use Rattle.journal_picture.specs.declared.lives.Life.{Life}
use Rattle.journal_picture.proofs.LifeLaws.{ends_so, one_reading, same_loads}
use Rattle.journal_picture.proofs.lives.end_life.Goals as goal

pub returns-then-eq-clause-loads : goal.returns-then-eq-clause-loads
returns-then-eq-clause-loads c = same_loads c.args.lives.now.items c.args.ident.serial c.index_mut.result.now c.args.departure c.index_mut.ensures.value

pub returns-then-eq-clause-ends : goal.returns-then-eq-clause-ends
returns-then-eq-clause-ends c j cpu there all =
    let within : c.args.ident.serial < length c.args.lives.now.items = omega (arith, c.if-index-len.true, c.len.ensures) in
    let one = one_reading c.args.lives.now.items c.args.ident.serial c.index_mut.result.now c.index.result.now within c.index_mut.ensures.value c.index.ensures in
    ends_so j c.args.lives.now.items c.args.ident.serial c.index_mut.result.now c.args.ident c.args.departure cpu
    (ap (λ (x : Life). x.ident) one ∙ same_ident c.index.result.now.ident c.args.ident (sym c.if-eq.ensures)) there all

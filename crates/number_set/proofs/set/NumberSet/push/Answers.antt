use Rattle.std.proofs.Common.{◌+◌, ◌∙◌, ap, arith}
use Rattle.number_set.specs.Members.{Members}
use Rattle.number_set.proofs.SetLemmas.{flags_len, flags_pushed}
use Rattle.number_set.proofs.set.NumberSet.push.Goals as goal

pub set-requires : goal.set-requires
set-requires c =
    let i = c.self.inside in
    omega (arith, flags_len (i.len + 1) i.words.items)

pub returns-clause-flags : goal.returns-clause-flags
returns-clause-flags c =
    let i = c.self.inside in
    rw (← c.self.view_is) (ap (λ (m : Members). m.flags) c.set.ensures ∙ flags_pushed i.len i.words.items c.args.on)

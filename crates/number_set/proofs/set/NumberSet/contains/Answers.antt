use Rattle.std.proofs.Common.{◌∙◌, sym, ap}
use Rattle.number_set.specs.Bits.{bit_in}
use Rattle.number_set.proofs.SetLemmas.{flag_is}
use Rattle.number_set.proofs.set.NumberSet.contains.Goals as goal

pub returns : goal.returns
returns c =
    let i = c.self.inside in
    rw (← c.self.view_is) (c.contains.ensures ∙ ap (λ words. bit_in words c.args.number) c.deref.ensures.value ∙ sym (flag_is i.len i.words.items i.marks.items c.self.invariant c.args.number))

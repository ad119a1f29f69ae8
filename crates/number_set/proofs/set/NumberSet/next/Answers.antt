use Rattle.std.proofs.Common.{◌∙◌, ap, sym, subst}
use Rattle.number_set.specs.Bits.{bit_in}
use Rattle.number_set.specs.First.{IsFirst, IsFirstFrom}
use Rattle.number_set.specs.Members.{is_in}
use Rattle.number_set.specs.Layout.{flags_in}
use Rattle.number_set.proofs.SetLemmas.{first_flag, flag_is}
use Rattle.number_set.proofs.set.NumberSet.next.Goals as goal

pub returns-in_err-number : goal.returns-in_err-number
returns-in_err-number c =
    let i = c.self.inside in
    rw (← c.self.view_is) (subst (IsFirstFrom (is_in (flags_in i.len i.words.items)) c.args.from) (sym c.from_residual.ensures) (λ number after. flag_is i.len i.words.items i.marks.items c.self.invariant number ∙ ap (λ words. bit_in words number) (sym c.deref.ensures.value) ∙ c.in_err-number.ensures number after))

pub returns : goal.returns
returns c =
    let i = c.self.inside in
    let first = subst (λ words. IsFirst (bit_in words) c.args.from c.in_ok-number.number) c.deref.ensures.value c.in_ok-number.ensures in
    rw (← c.self.view_is) (first_flag i.len i.words.items i.marks.items c.self.invariant c.args.from c.in_ok-number.number first)

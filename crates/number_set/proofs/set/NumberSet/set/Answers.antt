use Rattle.std.proofs.Common.{◌-◌, ◌*◌, ◌/◌, ◌<◌, ◌∙◌, ℕ, ap, length, ltb, arith}
use Rattle.std.proofs.lemmas.List.{get_or_read}
use Rattle.number_set.specs.Layout.{flags_in}
use Rattle.number_set.proofs.SetLemmas.{flags_len, flags_put, mark_of, same_shown, sound_put}
use Rattle.number_set.proofs.set.NumberSet.set.Goals as goal

pub put-requires : goal.put-requires
put-requires c =
    let i = c.self.inside in
    let inside = rw (← c.self.view_is) at c.requires in
    omega (arith, inside, flags_len i.len i.words.items, c.self.invariant.within)

pub index-requires : goal.index-requires
index-requires c =
    let i = c.self.inside in
    let inside = rw (← c.self.view_is) at c.requires in
    omega (arith, inside, flags_len i.len i.words.items, c.self.invariant.within, c.put.ensures.len)

pub put-requires-2 : goal.put-requires-2
put-requires-2 c =
    let i = c.self.inside in
    let inside = rw (← c.self.view_is) at c.requires in
    omega (arith, inside, flags_len i.len i.words.items, c.self.invariant.within, c.self.invariant.marks_reach)

pub invariant_of-self : goal.invariant_of-self
invariant_of-self c =
    let i = c.self.inside in
    let inside = rw (← c.self.view_is) at c.requires in
    let below : c.args.number < i.len = omega (arith, inside, flags_len i.len i.words.items) in
    let p = c.put.ensures in
    let m = c.put-2.ensures in
    let word = get_or_read c.put.new.words.items (c.args.number / 64) c.index.result.now (omega (arith, below, p.len, c.self.invariant.within)) c.index.ensures 0 in
    sound_put i.len i.words.items i.marks.items c.put.new.words.items c.put-2.new.words.items c.args.number c.self.invariant below p.len p.others p.words m.len (m.there ∙ mark_of c.index.result.now ∙ ap (ltb 0) word) m.others

pub returns : goal.returns
returns c =
    let i = c.self.inside in
    let inside = rw (← c.self.view_is) at c.requires in
    let below : c.args.number < i.len = omega (arith, inside, flags_len i.len i.words.items) in
    let p = c.put.ensures in
    rw (← c.self.view_is) (same_shown (flags_in i.len c.put.new.words.items) _ (64 * length c.put.new.words.items - i.len) _ (flags_put i.len i.words.items c.put.new.words.items c.args.number c.args.on below p.there p.others) (ap (λ (n : ℕ). 64 * n - i.len) p.len))

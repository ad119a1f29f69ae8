use Rattle.std.proofs.Common.{◌+◌, ◌*◌, arith}
use Rattle.number_set.proofs.SetLemmas.{flags_same, lengthened, sound_more}
use Rattle.number_set.proofs.WordLemmas.{same_words}
use Rattle.number_set.proofs.set.NumberSet.make_room.Goals as goal

pub invariant_of-self-2 : goal.invariant_of-self-2
invariant_of-self-2 c =
    let i = c.self.inside in
    let all = 2 * c.len-words.result + 1 in
    let few = c.if-all-gt-MOST_WORDS.false in
    let marks = c.in_ok-lengthen.ensures in
    let words = c.lengthen-2.ensures in
    let v = c.self.invariant in
    let len = lengthened c.lengthen-2.result c.lengthen-2.new.words.items i.words.items all words.ok words.err in
    sound_more i.len i.words.items i.marks.items c.lengthen-2.new.words.items c.lengthen.new.words.items v words.words marks.words len.0 (omega (arith, len.1, few, v.small)) (omega (arith, len.1, marks.ok, v.marks_reach)) (omega (arith, marks.ok, few, v.marks_small))

pub returns-clause-flags : goal.returns-clause-flags
returns-clause-flags c =
    let i = c.self.inside in
    rw (← c.self.view_is) (flags_same i.len i.words.items c.lengthen-2.new.words.items (same_words c.lengthen-2.new.words.items i.words.items c.lengthen-2.ensures.words))

use Rattle.std.proofs.Common.{◌≡◌, ◌/◌, get_or, rules, sym, ◌∙◌}
use Rattle.number_set.proofs.WordLemmas.{in_word, none_past}
use Rattle.number_set.proofs.bits.contains.Goals as goal

pub returns-in-Some : goal.returns-in-Some
returns-in-Some c =
    let here : get_or c.args.words.now (c.args.number / 64) 0 ≡ c.in-Some.word.now = search rules in
    c.is_one.ensures ∙ sym (in_word c.args.words.now c.args.number c.in-Some.word.now here)

pub returns-in-None : goal.returns-in-None
returns-in-None c = sym (none_past c.args.words.now c.args.number (search rules))

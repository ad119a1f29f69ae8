use Rattle.std.proofs.Common.{◌≡◌, ◌≤◌, ◌/◌, length, get_or, rules, sym, subst, arith}
use Rattle.number_set.specs.Bits.{bit_in}
use Rattle.number_set.specs.First.{IsFirstFrom}
use Rattle.number_set.proofs.WordLemmas.{first_behind, first_here, marked_bit, none_here, none_marked, none_past}
use Rattle.number_set.proofs.bits.first_marked.Goals as goal

pub returns-in_err-get : goal.returns-in_err-get
returns-in_err-get c =
    let words = c.args.words.now in
    let past : length words ≤ c.args.from / 64 = search rules in
    subst (IsFirstFrom (bit_in words) c.args.from) (sym c.from_residual.ensures) (λ number after. none_past words number (omega (arith, past, after)))

pub returns-in-Some : goal.returns-in-Some
returns-in-Some c =
    let words = c.args.words.now in
    let from = c.args.from in
    let word = c.in_ok-get.field-0.now in
    let here : get_or words (from / 64) 0 ≡ word = search rules in
    first_here words from c.in-Some.at word here c.in-Some.ensures.within c.in-Some.ensures.first

pub returns-in_err-place : goal.returns-in_err-place
returns-in_err-place c =
    let words = c.args.words.now in
    let from = c.args.from in
    let word = c.in_ok-get.field-0.now in
    let here : get_or words (from / 64) 0 ≡ word = search rules in
    let none = none_here words from word here c.in_default.ensures.first in
    subst (IsFirstFrom (bit_in words) from) (sym c.from_residual-in_err-place.ensures) (none_marked words c.args.marks.now c.requires.marked from none c.in_err-place.ensures)

pub returns-in_err-at : goal.returns-in_err-at
returns-in_err-at c =
    let words = c.args.words.now in
    let place = c.in_ok-place.place in
    let word = c.in_ok-get-2.field-0.now in
    let there : get_or words place 0 ≡ word = search rules in
    absurd (marked_bit words c.args.marks.now c.requires.marked place word c.in_ok-place.ensures.in_it there c.in_err-at.ensures.first)

pub returns : goal.returns
returns c =
    let words = c.args.words.now in
    let from = c.args.from in
    let word = c.in_ok-get.field-0.now in
    let here : get_or words (from / 64) 0 ≡ word = search rules in
    let none = none_here words from word here c.in_default.ensures.first in
    let place = c.in_ok-place.place in
    let word-2 = c.in_ok-get-2.field-0.now in
    let there : get_or words place 0 ≡ word-2 = search rules in
    first_behind words c.args.marks.now c.requires.marked from none place c.in_ok-at.at word-2 c.in_ok-place.ensures there c.in_ok-at.ensures.within c.in_ok-at.ensures.first

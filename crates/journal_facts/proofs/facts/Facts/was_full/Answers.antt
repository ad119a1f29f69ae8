use Rattle.std.proofs.Common.{◌≡◌, ap, sym, ◌∙◌, arith}
use Rattle.std.proofs.lemmas.Bool.{eq-eqb, eqb-true, false≢true}
use Rattle.flat_state.specs.State.{FlatState}
use Rattle.run_journal.specs.Legal.{cap_of}
use Rattle.journal_facts.proofs.facts.Facts.was_full.Goals as goal

pub returns-in-Some : goal.returns-in-Some
returns-in-Some c = λ k are.
    let cap : c.cap.result ≡ cap_of k.state c.args.kind = c.cap.ensures ∙ ap (λ (s : FlatState). cap_of s c.args.kind) (sym are.stand.state) in
    let now = c.count.ensures k are.stand.tables in
    let before = c.count-in-Some.ensures k.state k.before k.residents k.left are.group in
    let gone = c.in-Some.ensures in
    let same = c.from.ensures in (
      λ e. let is = eqb-true c.count-in-Some.result c.from.result e in omega arith,
      λ full. eq-eqb c.count-in-Some.result c.from.result (omega arith),
    )

pub returns-in-None : goal.returns-in-None
returns-in-None c = λ k are. (
  λ e. absurd (false≢true e),
  λ full. absurd (c.in-None.ensures
      (let cap : c.cap.result ≡ cap_of k.state c.args.kind = c.cap.ensures ∙ ap (λ (s : FlatState). cap_of s c.args.kind) (sym are.stand.state) in
      let now = c.count.ensures k are.stand.tables in
      let before = are.group.counts c.args.kind in
      omega arith)),
)

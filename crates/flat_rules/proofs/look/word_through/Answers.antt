use Rattle.std.proofs.Common.{Some, sym, ap, ◌∙◌}
use Rattle.phys_groups.specs.Memory.{word_at}
use Rattle.phys_groups.specs.Translation.{place_in}
use Rattle.rv32_exec.specs.declared.contexts.Context.{Context}
use Rattle.flat_rules.proofs.Looks.{fetched_none, fetched_word}
use Rattle.flat_rules.proofs.look.word_through.Goals as goal

pub returns-in-Some : goal.returns-in-Some
returns-in-Some g c =
    let s = g.T.Records.state c.args.tables.now in
    let t = g.T.Records.shown c.args.thread.now in
    ap Some (c.word_at.ensures ∙ ap (λ (x : Context). word_at s.memory (place_in c.in-Some.row.frame x.pc)) c.context_of.ensures)
    ∙ fetched_word s t.space t.context.pc c.in-Some.row c.requires.thread.aligned (sym c.requires.row ∙ c.in-Some.is)

pub returns-in-None : goal.returns-in-None
returns-in-None g c =
    let s = g.T.Records.state c.args.tables.now in
    let t = g.T.Records.shown c.args.thread.now in
    fetched_none s t.space t.context.pc (sym c.requires.row ∙ c.in-None.is)

use Rattle.std.proofs.Common.{◌≡◌, Bool, true, false, not, ◌&&◌, Option, is_some, refl, sym, ap, ◌∙◌, map}
use Rattle.std.specs.Option.{option_map}
use Rattle.cache_ident.specs.declared.names.Name.{Name}
use Rattle.flat_state.specs.declared.records.Signal.{Signal}
use Rattle.flat_state.specs.Pages.{pages_of}
use Rattle.phys_groups.specs.Rows.{row_name}
use Rattle.flat_state.specs.NextSteps.{data_row, faults, fetch_row, next_step_if, row_of_action}
use Rattle.flat_state.specs.Signals.{full_among, full_receiver, is_runnable, next_action, next_signal, receivers_for, signal_of}
use Rattle.flat_rules.proofs.look.next_step_of_ready.Goals as goal

twice : (b : Bool) → b ≡ not (not b)
twice true = refl
twice false = refl

pub returns : goal.returns
unfolding next_action next_signal
returns g c =
    let s = (g.T.Records.state c.args.tables.now) in
    let t = (g.T.Records.shown c.args.thread.now) in
    let decoded : c.action_of-action.result ≡ next_action t.context (pages_of s t.space) = c.action_of-action.ensures in
    let full : c.full_for.result ≡ full_receiver s t =
    c.full_for.ensures ∙ ap (λ (sent : Option Signal). full_among s.threads (map (λ receiver. receiver.0) (receivers_for s sent))) (c.signal_of.ensures ∙ ap (signal_of s t) decoded) in
    let runs : c.is_none.result ≡ is_runnable s t =
    twice c.is_none.result
    ∙ ap not (sym c.is_none.ensures ∙ ap is_some full)
    ∙ ap (λ (ready : Bool). ready && not (is_some (full_receiver s t))) (sym c.requires.ready) in
    let goes : c.name_of-2.result ≡ option_map row_name (data_row s t) = c.name_of-2.ensures ∙ ap (option_map row_name) (c.row_of_action.ensures ∙ ap (row_of_action s t) decoded) in
    ap (λ (r : Bool). record { runnable = r; faults = c.faults.result; fetch_row = c.name_of.result; data_row = c.name_of-2.result }) runs
    ∙ ap (λ (f : Bool). record { runnable = is_runnable s t; faults = f; fetch_row = c.name_of.result; data_row = c.name_of-2.result }) c.faults.ensures
    ∙ ap (λ (n : Option Name). record { runnable = is_runnable s t; faults = faults s t; fetch_row = n; data_row = c.name_of-2.result }) (c.name_of.ensures ∙ ap (option_map row_name) c.fetch_row-fetch_row.ensures.row)
    ∙ ap (λ (n : Option Name). record { runnable = is_runnable s t; faults = faults s t; fetch_row = option_map row_name (fetch_row s t); data_row = n }) goes
    ∙ ap (λ (ready : Bool). next_step_if ready s t) (sym c.requires.ready)

-- The thread comes away from its processor, and then its steps happen, if there are any.
use Rattle.std.proofs.Common.{IsSome, List, slice_get, ap, sym, ◌∙◌, subst}
use Rattle.cache_ident.specs.declared.names.Name.{Name}
use Rattle.cache_ident.specs.declared.names.Name.TheVariants as name
use Rattle.cache_ident.specs.Residents.{IsNameResident, Resident}
use Rattle.flat_state.specs.State.{FlatState}
use Rattle.cached_machine.specs.desc_stores.specs.Contents.{content_of}
use Rattle.cached_machine.specs.store_residents.proofs.ContentLemmas.{resident_content}
use Rattle.board_core.specs.Core.{contents_of, Recorded}
use Rattle.board_core.proofs.AheadLaws.{same_posted}
use Rattle.board_core.proofs.core_record.Core.run.Goals as goal

pub check_in-requires : goal.check_in-requires
check_in-requires c =
    let h = contents_of c.args.self.now in
    let loaded = c.requires.loaded in
    record { there = subst (λ (n : Name). IsSome (content_of h n)) loaded.2 (resident_content h c.holds.ensures.tables.1.whole.one loaded.0 loaded.1) }

pub run_ahead-requires-clause-views : goal.run_ahead-requires-clause-views
run_ahead-requires-clause-views c = λ t here v within.
    let new = c.check_in.new.self in
    let state = same_posted c.args.self.now.machine new.machine (ap (λ (b : Recorded). b.machine) c.check_in.ensures.rest) c.check_in.ensures.only in
    let here_before = ap (λ (s : FlatState). slice_get s.threads c.args.no.0) (sym state) ∙ here in
    subst (λ (rs : List Resident). IsNameResident rs (name.Mapping t.space v.vpn)) (sym c.check_in.ensures.only.loaded.residents) (c.requires.views t here_before v within)

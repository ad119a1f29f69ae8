use Rattle.std.proofs.Common.{[], ◌∷◌, length, get_or, ◌∙◌, ap, subst, length-append, arith}
use Rattle.cache_ident.specs.Names.{first_name}
use Rattle.cache_ident.specs.Residents.{IsNameResident, IsResident}
use Rattle.cached_machine.specs.desc_stores.specs.Contents.{residents_of}
use Rattle.cached_machine.specs.desc_tables.specs.Tables.{Held}
use Rattle.cached_machine.specs.store_residents.proofs.ResidentLemmas.{one_each}
use Rattle.board_chains.proofs.LoadLemmas.{loaded_more, not_loaded_more}
use Rattle.board_chains.proofs.loads.loaded_among.Goals.{in-Some, in_default}
use Rattle.board_chains.proofs.loads.loaded_among.Goals as goal

pub loop-name-preserved : goal.loop-name-preserved
loop-name-preserved c =
    let contents = c.args.machine.now.held.contents in
    let have = one_each contents c.tables_are_sound.ensures.sound.1.whole.one in
    let names = c.args.names.now in
    let loop = c.loop-name in
    elim c.match-resident.branch [
      | in-Some w ↦ rw w.idents-is (record {
        idents = w.push.ensures.items ∙ loaded_more (residents_of contents) have names loop.name-index first_name c.loop-name-test.true loop.idents.items w.in-Some.ident loop.invariant.idents (subst (λ (held : Held). IsResident (residents_of held.contents) w.in-Some.ident (get_or names loop.name-index first_name)) c.tables.ensures.tables w.in-Some.ensures.found);
        few = let longer = ap length w.push.ensures.items in omega (arith, longer, length-append loop.idents.items (w.in-Some.ident ∷ []), loop.invariant.few);
      })
      | in_default w ↦ rw w.idents-is (record {
        idents = not_loaded_more (residents_of contents) have names loop.name-index first_name c.loop-name-test.true loop.idents.items loop.invariant.idents (subst (λ (held : Held). IsNameResident (residents_of held.contents) (get_or names loop.name-index first_name) → ⊥) c.tables.ensures.tables w.in_default.ensures.absent);
        few = omega (arith, loop.invariant.few);
      })
    ]

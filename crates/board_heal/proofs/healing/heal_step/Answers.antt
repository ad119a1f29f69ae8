use Rattle.std.proofs.Common.{◌≡◌, get_or, slice_get, Some, None, sym, ◌∙◌, ap, arith}
use Rattle.std.proofs.lemmas.Option.{same_Some, slice_get-get_or}
use Rattle.cache_ident.specs.declared.names.Name.{Name}
use Rattle.cache_ident.specs.Names.{first_name}
use Rattle.flat_state.specs.declared.records.FlatThread.{FlatThread}
use Rattle.flat_state.specs.NextSteps.{next_step}
use Rattle.flat_state.specs.Signals.{full_receiver}
use Rattle.flat_state.specs.State.{FlatState}
use Rattle.board_core.specs.cached_machine.specs.Cached.{state_of, Cached}
use Rattle.board_core.specs.Core.{contents_of}
use Rattle.board_heal.specs.Healed.{IsHealed}
use Rattle.board_heal.proofs.HealLaws.{can_heal, chain_so, formed_so, healed, here_still, may_come, may_step, not_full, not_refused, room_for_all, some_next, has_stepped, steps_still, thread_loaded, unmarked_still}
use Rattle.board_heal.proofs.WayLaws.{none_yet, one_further, out_before}
use Rattle.board_heal.proofs.healing.heal_step.Goals as goal

pub known_step-next-requires : goal.known_step-next-requires
known_step-next-requires c =
    let old = c.args.core.now in
    let mid = c.make_room.new.self in
    let whom = c.args.no in
    let room = c.make_room.ensures.only in
    let can = can_heal old whom (sym c.in_ok-checked.ensures) in
    some_next old mid whom room can

pub chain_of-chain-requires-clause-ready : goal.chain_of-chain-requires-clause-ready
chain_of-chain-requires-clause-ready c t is =
    let old = c.args.core.now in
    let mid = c.make_room.new.self in
    let whom = c.args.no in
    let room = c.make_room.ensures.only in
    let can = can_heal old whom (sym c.in_ok-checked.ensures) in
    let here : slice_get (state_of c.machine_of.result.now).threads whom.0 ≡ Some can.thread = ap (λ (m : Cached). slice_get (state_of m).threads whom.0) c.machine_of.ensures.machine ∙ here_still old mid whom room can in
    ap (λ (x : FlatThread). x.status) (same_Some t can.thread (sym is ∙ here)) ∙ can.ready

pub loop-name-init : goal.loop-name-init
loop-name-init c =
    let old = c.args.core.now in
    let mid = c.make_room.new.self in
    let whom = c.args.no in
    let room = c.make_room.ensures.only in
    let can = can_heal old whom (sym c.in_ok-checked.ensures) in
    let names = c.as_slice-names.result.now in
    let ok = c.in_ok-make_room.ensures.ok in
    let spare = ok.0 in
    let entries = ok.1 in
    let short = c.as_slice-names.ensures.fits in
    record { way = none_yet c.args.cpu names old mid room (out_before old mid room c.machine_of.ensures.known.out) (room_for_all old mid whom room can names (omega (arith, short)) (omega (arith, entries))) (omega (arith, short, spare)) }

pub load_missing-requires-clause-next : goal.load_missing-requires-clause-next
load_missing-requires-clause-next c =
    let old = c.args.core.now in
    let mid = c.make_room.new.self in
    let whom = c.args.no in
    let room = c.make_room.ensures.only in
    let can = can_heal old whom (sym c.in_ok-checked.ensures) in
    let s = state_of mid.machine in
    let next = c.known_step-next.result in
    let names = c.as_slice-names.result.now in
    let formed = formed_so mid c.machine_of.ensures.known in
    let same : state_of old.machine ≡ s = sym room.only.state in
    let chain = chain_so c.machine_of.result.now mid.machine c.machine_of.ensures.machine whom.0 next c.chain_of-chain.result.items names c.as_slice-names.ensures.value
    c.chain_of-chain.ensures.order c.chain_of-chain.ensures.once c.chain_of-chain.ensures.few c.chain_of-chain.ensures.parents c.chain_of-chain.ensures.good in
    let here = here_still old mid whom room can in
    let loop = c.loop-name in
    let way = loop.invariant.way in
    let name : Name = get_or names loop.name-index first_name in
    may_come c.args.cpu whom old loop.core s formed same next names chain.order loop.name-index way chain.once chain.few chain.parents chain.good name (slice_get-get_or names loop.name-index first_name c.loop-name-test.true)

pub load_missing-requires-clause-sealed : goal.load_missing-requires-clause-sealed
load_missing-requires-clause-sealed c =
    let old = c.args.core.now in
    let mid = c.make_room.new.self in
    let whom = c.args.no in
    let room = c.make_room.ensures.only in
    let can = can_heal old whom (sym c.in_ok-checked.ensures) in
    c.loop-name.invariant.way.sealed ∙ can.sealed

pub loop-name-preserved : goal.loop-name-preserved
loop-name-preserved c =
    let old = c.args.core.now in
    let mid = c.make_room.new.self in
    let whom = c.args.no in
    let room = c.make_room.ensures.only in
    let can = can_heal old whom (sym c.in_ok-checked.ensures) in
    let s = state_of mid.machine in
    let next = c.known_step-next.result in
    let names = c.as_slice-names.result.now in
    let formed = formed_so mid c.machine_of.ensures.known in
    let same : state_of old.machine ≡ s = sym room.only.state in
    let chain = chain_so c.machine_of.result.now mid.machine c.machine_of.ensures.machine whom.0 next c.chain_of-chain.result.items names c.as_slice-names.ensures.value
    c.chain_of-chain.ensures.order c.chain_of-chain.ensures.once c.chain_of-chain.ensures.few c.chain_of-chain.ensures.parents c.chain_of-chain.ensures.good in
    let here = here_still old mid whom room can in
    let loop = c.loop-name in
    let way = loop.invariant.way in
    let name : Name = get_or names loop.name-index first_name in
    record { way = one_further c.args.cpu names old loop.core c.load_missing.new.core loop.name-index name (slice_get-get_or names loop.name-index first_name c.loop-name-test.true) chain.once way (out_before old mid room c.machine_of.ensures.known.out) c.load_missing.ensures }

pub step-requires : goal.step-requires
step-requires c =
    let old = c.args.core.now in
    let mid = c.make_room.new.self in
    let whom = c.args.no in
    let room = c.make_room.ensures.only in
    let can = can_heal old whom (sym c.in_ok-checked.ensures) in
    let s = state_of mid.machine in
    let next = c.known_step-next.result in
    let names = c.as_slice-names.result.now in
    let formed = formed_so mid c.machine_of.ensures.known in
    let same : state_of old.machine ≡ s = sym room.only.state in
    let chain = chain_so c.machine_of.result.now mid.machine c.machine_of.ensures.machine whom.0 next c.chain_of-chain.result.items names c.as_slice-names.ensures.value
    c.chain_of-chain.ensures.order c.chain_of-chain.ensures.once c.chain_of-chain.ensures.few c.chain_of-chain.ensures.parents c.chain_of-chain.ensures.good in
    let here = here_still old mid whom room can in
    let loop = c.loop-name in
    let way = loop.invariant.way in
    let free : full_receiver s can.thread ≡ None = ap (λ (x : FlatState). full_receiver x can.thread) room.only.state ∙ not_full old whom can in
    let still = steps_still c.args.cpu whom old loop.core s formed same next names chain.order loop.name-index way c.loop-name-test.false can.thread here c.known_step-next.ensures can.ready free mid room c.machine_of.ensures.known c.holds.ensures in
    record {
      next = ap (λ (x : FlatState). next_step x whom.0) (way.state ∙ same) ∙ c.known_step-next.ensures;
      may = may_step c.args.cpu whom old loop.core s formed same next names chain.order loop.name-index way c.loop-name-test.false can.thread here c.known_step-next.ensures can.ready free;
      loaded = thread_loaded c.args.cpu whom old loop.core s formed same next names chain.order loop.name-index way c.loop-name-test.false can.thread here c.known_step-next.ensures can.ready free;
      unmarked = unmarked_still (contents_of old) (contents_of loop.core) whom way.marks can.away;
      left = let left = can.left in let limit = way.grows.limit in omega arith;
      write = record {
        sealed = way.sealed ∙ can.sealed;
        processor = c.requires.processor;
        room = let fits = way.room in let end = loop.auto.name-index-end in omega arith;
      };
    }

-- all of it
whole : (c : goal.After-step) → IsHealed c.args.cpu c.args.no c.args.core.now c.step.new.self
whole c =
    let old = c.args.core.now in
    let mid = c.make_room.new.self in
    let whom = c.args.no in
    let room = c.make_room.ensures.only in
    let can = can_heal old whom (sym c.in_ok-checked.ensures) in
    let s = state_of mid.machine in
    let next = c.known_step-next.result in
    let names = c.as_slice-names.result.now in
    let formed = formed_so mid c.machine_of.ensures.known in
    let same : state_of old.machine ≡ s = sym room.only.state in
    let chain = chain_so c.machine_of.result.now mid.machine c.machine_of.ensures.machine whom.0 next c.chain_of-chain.result.items names c.as_slice-names.ensures.value
    c.chain_of-chain.ensures.order c.chain_of-chain.ensures.once c.chain_of-chain.ensures.few c.chain_of-chain.ensures.parents c.chain_of-chain.ensures.good in
    let here = here_still old mid whom room can in
    let loop = c.loop-name in
    let way = loop.invariant.way in
    let free : full_receiver s can.thread ≡ None = ap (λ (x : FlatState). full_receiver x can.thread) room.only.state ∙ not_full old whom can in
    let still = steps_still c.args.cpu whom old loop.core s formed same next names chain.order loop.name-index way c.loop-name-test.false can.thread here c.known_step-next.ensures can.ready free mid room c.machine_of.ensures.known c.holds.ensures in
    let short = c.as_slice-names.ensures.fits in
    healed c.args.cpu whom old loop.core s formed same next names chain.order loop.name-index way c.loop-name-test.false can.thread here c.known_step-next.ensures can.ready free chain.few (omega (arith, short)) c.step.new.self c.step.ensures.entries c.step.ensures.places c.step.ensures.steps still

pub returns-clause-healed : goal.returns-clause-healed
returns-clause-healed c = whole c

pub returns-clause-promised : goal.returns-clause-promised
returns-clause-promised c = λ can. (tt, has_stepped c.args.cpu c.args.no c.args.core.now c.step.new.self (whole c))

pub returns-in_err-checked-clause-promised : goal.returns-in_err-checked-clause-promised
returns-in_err-checked-clause-promised c = λ can. absurd (cc (c.in_err-checked.ensures, not_refused c.args.core.now c.args.no can))

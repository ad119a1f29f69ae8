use Rattle.std.proofs.Common.{refl, ap, ◌∙◌, inl, inr}
use Rattle.std.specs.Option.{option_map}
use Rattle.cache_ident.specs.declared.names.Name.TheVariants as names
use Rattle.cache_ident.specs.declared.names.ThreadNo.{ThreadNo}
use Rattle.owners.specs.Telling.{home_in, kernel_in, name_in, receiver_in, space_in}
use Rattle.owners.proofs.Hearing.{heard_name, heard_nothing, heard_receiver, heard_space, heard_thread, on_ok}
use Rattle.owners.proofs.owners.Owners.hear.Goals as goal

pub returns-in-Machine : goal.returns-in-Machine
returns-in-Machine c ds new = elim c.in-Machine.is [
  | inl machine ↦ heard_nothing ds c.args.decl.now _ c.args.self.now machine.1 refl refl refl refl refl new
  | inr other ↦ elim other [
    | inl right ↦ heard_nothing ds c.args.decl.now _ c.args.self.now right.4 refl refl refl refl refl new
    | inr word ↦ heard_nothing ds c.args.decl.now _ c.args.self.now word.3 refl refl refl refl refl new
  ]
]

pub returns-in-Kernel : goal.returns-in-Kernel
returns-in-Kernel c =
    let is = c.in-Kernel.is in
    on_ok c.meet.result
    (λ met ds new. heard_name ds c.args.decl.now (names.Kernel c.in-Kernel.no) c.args.self.now c.meet.new.self (ap name_in is) (ap space_in is) (ap receiver_in is) (ap kernel_in is) (ap home_in is) new met)
    c.meet.ensures

pub returns-in_ok-insert-in-Space : goal.returns-in_ok-insert-in-Space
returns-in_ok-insert-in-Space c ds new =
    let is = c.in-Space.is in
    let updates = c.in_ok-insert-in-Space.ensures.updates in
    heard_space ds c.args.decl.now (names.Space c.in-Space.no) c.in-Space.kernel c.in-Space.no c.args.self.now c.meet-in-Space.new.self _ c.push.new.self.items c.insert.new.self.entries
    (ap name_in is) (ap space_in is) (ap receiver_in is) (ap kernel_in is) (ap home_in is) c.self.view_is c.in_ok-push-in-Space.ensures.items updates.1 updates.2 new c.in_ok-meet-in-Space.ensures

pub returns-in_ok-meet-in-Thread : goal.returns-in_ok-meet-in-Thread
returns-in_ok-meet-in-Thread c =
    let is = c.in-Thread.is in
    on_ok c.learn_space.result
    (λ learnt ds new.
    heard_thread ds c.args.decl.now (names.Thread c.in-Thread.no) c.in-Thread.no c.in-Thread.space c.args.self.now c.meet-in-Thread.new.self c.learn_space.new.self
    (ap name_in is) (ap space_in is) (ap receiver_in is) (ap kernel_in is) (ap home_in is) new c.in_ok-meet-in-Thread.ensures learnt)
    c.learn_space.ensures.ok

pub returns-in-Some : goal.returns-in-Some
returns-in-Some c =
    let is = c.in-Map.is in
    on_ok c.learn_receiver.result
    (λ learnt ds new.
    heard_receiver ds c.args.decl.now (names.Mapping c.in-Map.space c.in-Map.vpn) (c.in-Map.space, c.in-Map.vpn) c.in-Map.receiver c.in-Some.field-0 c.args.self.now c.meet-in-Map.new.self c.learn_receiver.new.self
    (ap name_in is) (ap space_in is) (ap receiver_in is) (ap kernel_in is) (ap home_in is) c.in-Some.is new c.in_ok-meet-in-Map.ensures learnt)
    c.learn_receiver.ensures.ok

pub returns-in-None : goal.returns-in-None
returns-in-None c ds new =
    let is = c.in-Map.is in
    heard_name ds c.args.decl.now (names.Mapping c.in-Map.space c.in-Map.vpn) c.args.self.now c.meet-in-Map.new.self
    (ap name_in is) (ap space_in is) (ap receiver_in is ∙ ap (option_map (λ (t : ThreadNo). ((c.in-Map.space, c.in-Map.vpn), t))) c.in-None.is) (ap kernel_in is) (ap home_in is) new c.in_ok-meet-in-Map.ensures

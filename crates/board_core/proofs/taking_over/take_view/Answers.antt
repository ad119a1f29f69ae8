-- The row is marked, and the frame has the view's bytes afterwards, or had them already where nothing was stored to the view.
use Rattle.std.proofs.Common.{◌≡◌, ℕ, Bool, List, length, Some, ap, sym, ◌∙◌, subst}
use Rattle.std.specs.Bool.{OnTrue}
use Rattle.cache_ident.specs.declared.names.Frame.{Frame}
use Rattle.phys_groups.specs.Memory.{page_at, with_page, HasFrame}
use Rattle.board_ops.specs.page_views.specs.Parts.{AreAlikeBut}
use Rattle.cached_machine.specs.Aside.{aside_of}
use Rattle.cached_machine.specs.Cached.{Cached}
use Rattle.board_core.specs.Stamps.{stamped_at}
use Rattle.board_core.proofs.TakingLaws.{alike_now, copied_stamps, copied_state, kept_stamps, kept_state, marks_of_view, memory_marked, put_already, put_copied}
use Rattle.board_core.proofs.taking_over.take_view.Goals as goal

pub copy_part_in-requires-clause-frame : goal.copy_part_in-requires-clause-frame
copy_part_in-requires-clause-frame c =
    let v = c.args.view.now in
    let mid = c.mark_near.new.self in
    let state = marks_of_view c.args.machine.now mid c.args.space v c.vpn.result c.written.result c.vpn.ensures c.written.ensures c.mark_near.ensures.state in
    subst (λ (m : List ℕ). HasFrame m c.frame.result) (sym (memory_marked c.args.machine.now mid c.args.space v c.requires.touched state))
    (subst (λ (f : Frame). HasFrame c.args.machine.now.memory f) (sym c.frame.ensures) c.requires.frame)

pub copy_part_in-requires-clause-alike : goal.copy_part_in-requires-clause-alike
copy_part_in-requires-clause-alike c =
    let v = c.args.view.now in
    let mid = c.mark_near.new.self in
    let state = marks_of_view c.args.machine.now mid c.args.space v c.vpn.result c.written.result c.vpn.ensures c.written.ensures c.mark_near.ensures.state in
    let same = memory_marked c.args.machine.now mid c.args.space v c.requires.touched state in
    subst (λ (m : List ℕ). AreAlikeBut c.changed.result (page_at m c.frame.result) c.present.result.now) (sym same)
    (subst (λ (f : Frame). AreAlikeBut c.changed.result (page_at c.args.machine.now.memory f) c.present.result.now) (sym c.frame.ensures)
    (subst (AreAlikeBut c.changed.result (page_at c.args.machine.now.memory v.frame)) (sym c.present.ensures.bytes) (alike_now v c.args.machine.now.memory c.changed.result c.changed.ensures.alike c.requires.found)))

pub returns-then-not-is_as_copied-clause-state : goal.returns-then-not-is_as_copied-clause-state
returns-then-not-is_as_copied-clause-state c =
    let v = c.args.view.now in
    let mid = c.mark_near.new.self in
    let state = marks_of_view c.args.machine.now mid c.args.space v c.vpn.result c.written.result c.vpn.ensures c.written.ensures c.mark_near.ensures.state in
    copied_state c.args.machine.now mid c.args.space v c.requires.touched state c.copy_part_in.new.self
    (c.copy_part_in.ensures
    ∙ ap (λ (f : Frame). record mid { memory = with_page mid.memory f c.present.result.now }) c.frame.ensures
    ∙ ap (λ (p : List ℕ). record mid { memory = with_page mid.memory v.frame p }) c.present.ensures.bytes)

pub returns-then-not-is_as_copied-clause-bytes : goal.returns-then-not-is_as_copied-clause-bytes
returns-then-not-is_as_copied-clause-bytes c =
    let v = c.args.view.now in
    let mid = c.mark_near.new.self in
    let state = marks_of_view c.args.machine.now mid c.args.space v c.vpn.result c.written.result c.vpn.ensures c.written.ensures c.mark_near.ensures.state in
    put_copied v c.args.machine.now.memory mid.memory c.copy_part_in.new.self.memory c.present.result.now
    (memory_marked c.args.machine.now mid c.args.space v c.requires.touched state) c.requires.frame c.present.ensures.whole_page c.present.ensures.bytes
    (ap (λ (m : Cached). m.memory) c.copy_part_in.ensures ∙ ap (λ (f : Frame). with_page mid.memory f c.present.result.now) c.frame.ensures)

pub returns-then-not-is_as_copied-clause-rest : goal.returns-then-not-is_as_copied-clause-rest
returns-then-not-is_as_copied-clause-rest c = ap aside_of c.copy_part_in.ensures ∙ c.mark_near.ensures.rest

pub returns-then-not-is_as_copied-clause-stamps : goal.returns-then-not-is_as_copied-clause-stamps
returns-then-not-is_as_copied-clause-stamps c =
    let v = c.args.view.now in
    let mid = c.mark_near.new.self in
    let state = marks_of_view c.args.machine.now mid c.args.space v c.vpn.result c.written.result c.vpn.ensures c.written.ensures c.mark_near.ensures.state in
    copied_stamps c.args.at c.args.machine.now.memory mid.memory c.copy_part_in.new.self.memory c.args.stamps.now.items c.put_stamp.new.stamps.items v.frame v.present
    (memory_marked c.args.machine.now mid c.args.space v c.requires.touched state) c.requires.frame (ap length (sym c.present.ensures.bytes) ∙ c.present.ensures.whole_page) (c.requires.places v.frame c.requires.frame)
    (ap (λ (m : Cached). m.memory) c.copy_part_in.ensures
    ∙ ap (λ (f : Frame). with_page mid.memory f c.present.result.now) c.frame.ensures
    ∙ ap (λ (p : List ℕ). with_page mid.memory v.frame p) c.present.ensures.bytes)
    (c.put_stamp.ensures ∙ ap (λ (f : Frame). stamped_at (Some f) c.args.at c.args.stamps.now.items) c.frame-then-not-is_as_copied.ensures)

pub returns-else-not-is_as_copied-clause-state : goal.returns-else-not-is_as_copied-clause-state
returns-else-not-is_as_copied-clause-state c =
    let v = c.args.view.now in
    let mid = c.mark_near.new.self in
    let state = marks_of_view c.args.machine.now mid c.args.space v c.vpn.result c.written.result c.vpn.ensures c.written.ensures c.mark_near.ensures.state in
    let as_copied : v.present ≡ v.first = subst (λ (b : Bool). OnTrue b (v.present ≡ v.first)) c.if-not-is_as_copied.false c.is_as_copied.ensures in
    let same = memory_marked c.args.machine.now mid c.args.space v c.requires.touched state in
    kept_state c.args.machine.now mid c.args.space v c.requires.touched state c.requires.frame (sym (put_already v c.args.machine.now.memory mid.memory same as_copied c.requires.found).its)

pub returns-else-not-is_as_copied-clause-bytes : goal.returns-else-not-is_as_copied-clause-bytes
returns-else-not-is_as_copied-clause-bytes c =
    let v = c.args.view.now in
    let mid = c.mark_near.new.self in
    let state = marks_of_view c.args.machine.now mid c.args.space v c.vpn.result c.written.result c.vpn.ensures c.written.ensures c.mark_near.ensures.state in
    let as_copied : v.present ≡ v.first = subst (λ (b : Bool). OnTrue b (v.present ≡ v.first)) c.if-not-is_as_copied.false c.is_as_copied.ensures in
    put_already v c.args.machine.now.memory mid.memory (memory_marked c.args.machine.now mid c.args.space v c.requires.touched state) as_copied c.requires.found

pub returns-else-not-is_as_copied-clause-stamps : goal.returns-else-not-is_as_copied-clause-stamps
returns-else-not-is_as_copied-clause-stamps c =
    let v = c.args.view.now in
    let mid = c.mark_near.new.self in
    let state = marks_of_view c.args.machine.now mid c.args.space v c.vpn.result c.written.result c.vpn.ensures c.written.ensures c.mark_near.ensures.state in
    kept_stamps c.args.at c.args.machine.now.memory mid.memory c.args.stamps.now.items (memory_marked c.args.machine.now mid c.args.space v c.requires.touched state)

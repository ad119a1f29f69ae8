use Rattle.std.proofs.Common.{◌≡◌, ◌<◌, length, slice_get, Some, ap, get_or, subst, sym, ◌∙◌, arith}
use Rattle.std.proofs.lemmas.Option.{slice_get-get_or}
use Rattle.phys_groups.specs.Memory.{HasFrame}
use Rattle.board_core.specs.Core.{IsSound, Recorded}
use Rattle.board_core.proofs.StampLaws.{have_places, since_read}
use Rattle.board_core.proofs.core_record.Core.stamp.Goals as goal

pub index-requires : goal.index-requires
index-requires c =
    let there : c.args.frame.0 < length c.self.inside.stamps.items = have_places _ _ _ c.self.invariant.0.stamps c.args.frame (subst (λ (b : Recorded). HasFrame b.machine.memory c.args.frame) (sym c.self.view_is) c.requires) in
    omega arith

pub returns-clause-stamp : goal.returns-clause-stamp
returns-clause-stamp c =
    let stamps = c.self.inside.stamps.items in
    let there : c.args.frame.0 < length stamps = have_places _ _ _ c.self.invariant.0.stamps c.args.frame (subst (λ (b : Recorded). HasFrame b.machine.memory c.args.frame) (sym c.self.view_is) c.requires) in
    let read : slice_get stamps c.args.frame.0 ≡ Some c.index.result.now = slice_get-get_or stamps c.args.frame.0 c.index.result.now there ∙ ap Some (sym c.index.ensures) in
    subst (λ (b : Recorded). slice_get b.stamps c.args.frame.0 ≡ Some c.index.result.now) c.self.view_is read

pub returns-clause-since : goal.returns-clause-since
returns-clause-since c =
    let sound = subst (λ (b : Recorded). IsSound b) c.self.view_is c.self.invariant.0 in
    let read = ap (λ (b : Recorded). get_or b.stamps c.args.frame.0 c.index.result.now) c.self.view_is in
    since_read _ _ _ c.args.frame _ sound.stamps c.requires (c.index.ensures ∙ read)

use Rattle.cache_board.proofs.DeskLaws.{place_there}
use Rattle.cache_board.proofs.desk.Desk.view.Goals as goal

pub view-requires : goal.view-requires
view-requires c =
    let place = c.index_mut.result.now in
    let there = place_there c.args.self.now c.self.inside.places.items c.args.cpu place c.self.view_is c.self.invariant c.requires.processor c.index_mut.ensures.value in
    record { kept = (c.requires.views c.args.cpu place there).kept }

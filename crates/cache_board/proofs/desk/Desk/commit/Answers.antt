use Rattle.std.proofs.Common.{slice_set, ap}
use Rattle.cache_board.specs.Desks.{Desktop}
use Rattle.cache_board.proofs.DeskLaws.{place_there}
use Rattle.cache_board.proofs.desk.Desk.commit.Goals as goal

pub commit-requires : goal.commit-requires
commit-requires c =
    let place = c.index_mut.result.now in
    let there = place_there c.args.self.now c.self.inside.places.items c.args.cpu place c.self.view_is c.self.invariant c.requires.processor c.index_mut.ensures.value in
    record { views = λ ticket is. ((c.requires.views c.args.cpu place there).its ticket is).views }

pub returns : goal.returns
returns c =
    let place = c.index_mut.result.now in
    record {
      before = place;
      there = place_there c.args.self.now c.self.inside.places.items c.args.cpu place c.self.view_is c.self.invariant c.requires.processor c.index_mut.ensures.value;
      after = c.commit.new.self;
      rest = ap (λ (d : Desktop). let new : Desktop = record { places = slice_set d.places c.args.cpu c.commit.new.self } in new) c.self.view_is;
      changes = c.commit.ensures;
    }

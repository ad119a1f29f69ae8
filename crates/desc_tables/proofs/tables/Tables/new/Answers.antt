use Rattle.std.proofs.Common.{vec_capacity, ap, sym}
use Rattle.desc_groups.specs.resident_pairs.specs.Among.{Among}
use Rattle.desc_tables.proofs.NewLemmas.{sound_new}
use Rattle.desc_tables.proofs.tables.Tables.new.Goals as goal

pub invariant_of-result : goal.invariant_of-result
invariant_of-result c =
    let made = sound_new c.args.caps c.in_ok-stores.stores c.in_ok-stores.ensures c.each_is_one.ensures c.in_ok-pairs.pairs c.in_ok-gone.gone.items c.in_ok-left.left.items (vec_capacity c.in_ok-gone.gone) (vec_capacity c.in_ok-left.left) c.in_ok-pairs.ensures
    c.in_ok-gone.ensures.room c.in_ok-left.ensures.room in
    (made.0, made.1, made.2, sym (ap (λ (among : Among). among.caps) c.in_ok-pairs.ensures))

use Rattle.std.proofs.Common.{◌≡◌, set, Some, refl, arith}
use Rattle.cache_ident.specs.Rolls.{departed}
use Rattle.cache_ident.proofs.RollLemmas.{live_within, numbered-departed, set_live, standing_in-departed, standing_in-departed_other}
use Rattle.cache_ident.proofs.rolls.Roll.depart.Goals as goal

pub index_mut-entry-requires : goal.index_mut-entry-requires
index_mut-entry-requires c = omega (arith, live_within c.self.inside.issued.items c.args.ident c.self.invariant (rw (← c.self.view_is) at c.requires))

-- the entry at the place of the serial is the one that departs
written : (c : goal.After-self-1) → set c.self.inside.issued.items c.args.ident.serial (record { ident = c.index_mut-entry.result.now.ident; left = Some c.args.at }) ≡ departed c.self.inside.issued.items c.args.ident c.args.at
written c = set_live _ _ _ _ c.self.invariant (rw (← c.self.view_is) at c.requires) c.index_mut-entry.ensures.value

pub invariant_of-self : goal.invariant_of-self
invariant_of-self c = rw (written c) (numbered-departed 0 _ _ _ c.self.invariant)

pub returns-clause-after : goal.returns-clause-after
returns-clause-after c = rw (written c, ← c.self.view_is) refl

pub returns-clause-left : goal.returns-clause-left
returns-clause-left c = rw (written c) (standing_in-departed c.self.inside.issued.items c.args.ident c.args.at (rw (← c.self.view_is) at c.requires))

pub returns-clause-others : goal.returns-clause-others
returns-clause-others c i other = rw (written c, ← c.self.view_is) (standing_in-departed_other _ _ _ i other)

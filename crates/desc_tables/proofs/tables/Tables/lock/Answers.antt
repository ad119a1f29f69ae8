-- Its owner may lock one more.
use Rattle.std.proofs.Common.{◌≡◌, refl, subst, sym}
use Rattle.cache_ident.specs.Rolls.{standing_in}
use Rattle.cache_ident.specs.declared.idents.Standing.TheVariants.{Live}
use Rattle.desc_groups.specs.Moves.{MayBeLocked}
use Rattle.desc_tables.specs.Tables.{Held}
use Rattle.desc_tables.proofs.Limits.{locked_sound}
use Rattle.desc_tables.proofs.tables.Tables.lock.Goals as goal

pub invariant_of-self : goal.invariant_of-self
invariant_of-self c =
    let sound = c.self.invariant.0 in
    let live = subst (λ (h : Held). standing_in h.contents.issued c.args.ident ≡ Live) (sym c.self.view_is) c.requires.live in
    let may = subst (λ (h : Held). MayBeLocked h.contents c.args.ident) (sym c.self.view_is) c.requires.may in
    (locked_sound _ _ _ _ c.args.ident sound (c.lock.ensures.whole _ _ sound.whole) refl live may c.lock.ensures.residents c.lock.ensures.kept, c.self.invariant.1, c.self.invariant.2, c.self.invariant.3)

-- Its owner has one less locked, or as many.
use Rattle.std.proofs.Common.{◌≡◌, refl, subst, sym}
use Rattle.cache_ident.specs.Rolls.{standing_in}
use Rattle.cache_ident.specs.declared.idents.Standing.TheVariants.{Live}
use Rattle.desc_tables.specs.Tables.{Held}
use Rattle.desc_tables.proofs.Limits.{unlocked_sound}
use Rattle.desc_tables.proofs.tables.Tables.unlock.Goals as goal

pub invariant_of-self : goal.invariant_of-self
invariant_of-self c =
    let sound = c.self.invariant.0 in
    let live = subst (λ (h : Held). standing_in h.contents.issued c.args.ident ≡ Live) (sym c.self.view_is) c.requires.live in
    (unlocked_sound _ _ _ _ c.args.ident sound (c.unlock.ensures.whole _ _ sound.whole) refl live c.unlock.ensures.residents c.unlock.ensures.kept, c.self.invariant.1, c.self.invariant.2, c.self.invariant.3)

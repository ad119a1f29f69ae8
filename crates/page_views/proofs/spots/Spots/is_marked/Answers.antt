-- The view of the last fetch has its mark.
use Rattle.std.proofs.Common.{ℕ, true, refl, sym, ap, subst}
use Rattle.std.specs.Prelude.{nat_eq}
use Rattle.std.specs.Bool.{OnTrue}
use Rattle.std.proofs.lemmas.Bool.{eqb-true, OnTrue_from}
use Rattle.rv32_exec.specs.declared.statuses.Access.{Access}
use Rattle.rv32_exec.specs.declared.statuses.Access.TheVariants.{Fetch}
use Rattle.page_views.specs.declared.spots.Spot.{Spot}
use Rattle.page_views.specs.Spots.{IsNoted}
use Rattle.page_views.proofs.spots.Spots.is_marked.Goals as goal

pub returns-in-Fetch : goal.returns-in-Fetch
returns-in-Fetch c =
    let s = c.args.self.now in
    subst (λ (a : Access). OnTrue (nat_eq s.fetch.page c.args.page) ((x : ℕ) × IsNoted a s c.args.page x true)) (sym c.in-Fetch.is)
    (OnTrue_from (nat_eq s.fetch.page c.args.page) ((x : ℕ) × IsNoted Fetch s c.args.page x true) (λ same. (s.fetch.place, (ap (λ (n : ℕ). let t : Spot = record { page = n; place = s.fetch.place } in t) (eqb-true s.fetch.page c.args.page same), refl))))

use Rattle.std.proofs.Common.{◌↔◌, IsTrue, refl, ap, sym, ◌∙◌}
use Rattle.std.proofs.lemmas.Bool.{false≢true}
use Rattle.cache_ident.specs.declared.classes.Class.{Class}
use Rattle.residents.specs.declared.list.Held.{Held}
use Rattle.residents.specs.Tables.{resident_of}
use Rattle.journal_groups.specs.declared.gone.Gone.{Gone}
use Rattle.journal_groups.specs.Leaving.{IsBehindLast}
use Rattle.journal_groups.proofs.Leaves.{on_err, one_more, same_group}
use Rattle.journal_groups.proofs.group.Group.push.Goals as goal
use Rattle.journal_groups.proofs.group.Group.push.Goals.{then-self, else-self}

abbrev gone_with : Held → Class → Gone
gone_with held class = record { ident = held.ident; name = held.name; class = class }

pub returns-in_err-push-clause-err : goal.returns-in_err-push-clause-err
returns-in_err-push-clause-err c = on_err c.from_residual.result (same_group c.args.self.now (record { gone = c.push.new.self; rising = c.args.self.now.rising }) c.in_err-push.ensures.items refl)

pub returns-clause-ok : goal.returns-clause-ok
returns-clause-ok c = λ before now left are there good.
    one_more c.args.flat.now before now left (resident_of c.args.held) there
    c.args.self.now (record { gone = c.push.new.self; rising = c.if-self.rising }) are good
    (gone_with c.args.held c.class.result) (ap (λ (class : Class). gone_with c.args.held class) c.class.ensures) c.in_ok-push.ensures.items rises
  where
    rises : IsTrue c.if-self.rising ↔ (IsTrue c.args.self.now.rising × IsBehindLast c.args.self.now.gone.items (gone_with c.args.held c.class.result))
    rises = elim c.if-self.branch [
      | then-self w ↦ (
        λ e. (w.if-self.true, w.is_behind_last-rising.ensures.0 (sym w.rising-is ∙ e)),
        λ both. w.rising-is ∙ w.is_behind_last-rising.ensures.1 both.1,
      )
      | else-self w ↦ (
        λ e. absurd (false≢true (sym w.if-self.false ∙ (sym w.rising-is ∙ e))),
        λ both. absurd (false≢true (sym w.if-self.false ∙ both.0)),
      )
    ]

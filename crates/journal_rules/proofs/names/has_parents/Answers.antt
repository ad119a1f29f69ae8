use Rattle.std.proofs.Common.{◌∙◌, List, subst}
use Rattle.std.specs.Bool.{MatchBool}
use Rattle.cache_ident.specs.declared.names.Name.{Name}
use Rattle.journal_rules.specs.Running.{AreResident, LackOne}
use Rattle.journal_rules.proofs.names.has_parents.Goals as goal

pub returns : goal.returns
returns c = λ rs those.
    subst (λ (ns : List Name). MatchBool c.are_resident.result (AreResident rs ns) (LackOne rs ns)) (c.as_slice.ensures.value ∙ c.parents-parents.ensures) (c.are_resident.ensures rs those)

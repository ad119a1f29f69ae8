use Rattle.group_laws.proofs.Remaining.{stays_without_all, without_all_cases, without_all-push}
use Rattle.group_laws.proofs.leaving.what_left_is_not_resident.Goals as goal

pub returns : goal.returns
returns c = record {
  others = λ rs idents r. (λ there. without_all_cases idents rs r there, λ is. stays_without_all idents rs r is.0 is.1);
  one_more = λ rs idents ident. without_all-push idents ident rs;
}

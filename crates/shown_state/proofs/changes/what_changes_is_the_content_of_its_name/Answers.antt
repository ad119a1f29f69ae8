use Rattle.shown_state.proofs.UpdateLemmas.{loaded_change, loaded_content}
use Rattle.shown_state.proofs.changes.what_changes_is_the_content_of_its_name.Goals as goal

pub returns : goal.returns
returns c = record {
  loaded = λ c ident content one is. loaded_content c one ident content is;
  change = λ old new ident was content one held agrees has is. loaded_change old new ident was content one held agrees has is;
}

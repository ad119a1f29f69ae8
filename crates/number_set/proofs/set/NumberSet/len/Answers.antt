use Rattle.std.proofs.Common.{sym}
use Rattle.number_set.proofs.SetLemmas.{flags_len}
use Rattle.number_set.proofs.set.NumberSet.len.Goals as goal

pub returns-clause-len : goal.returns-clause-len
returns-clause-len c = rw (← c.self.view_is) (sym (flags_len c.self.inside.len c.self.inside.words.items))

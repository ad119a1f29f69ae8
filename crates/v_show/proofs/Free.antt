-- The command is one of which clap says what it makes of words.
use Rattle.std.proofs.Common.{◌≡◌, true, refl}
use Rattle.clap.specs.Words.{is_simple_and_free}
use Rattle.clap.proofs.OnLiterals.{clap_on_literals}
use Rattle.v_show.specs.Words.{command}

pub command_is_free : is_simple_and_free command ≡ true
unfolding clap_on_literals
command_is_free = refl

use Rattle.std.proofs.Common.{rules, append_assoc}
use Rattle.rv32_asm.specs.Listing.{of_three_text}
use Rattle.rv32_asm.proofs.listing.with_immediate.Goals as goal

pub returns : goal.returns
unfolding of_three_text
returns c = search (rules, append_assoc)

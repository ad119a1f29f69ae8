use Rattle.std.proofs.Common.{◌≡◌, take}
use Rattle.rv32_asm.specs.Listing.{listing}
use Rattle.rv32_asm.proofs.listing.lines.Given as goal

abbrev pub invariant-loop-word : goal.invariant-loop-word
invariant-loop-word l = l.out.items ≡ listing (take l.word-index l.words)

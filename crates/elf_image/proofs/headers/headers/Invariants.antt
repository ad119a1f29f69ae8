use Rattle.std.proofs.Common.{◌≡◌, length}
use Rattle.elf_image.specs.Elf.{first_headers}
use Rattle.elf_image.proofs.headers.headers.Given as goal

abbrev pub invariant-loop-i : goal.invariant-loop-i
invariant-loop-i l = record {
  found : l.headers.items ≡ first_headers l.bytes l.from l.i;
  len : length l.headers.items ≡ l.i;
}

use Rattle.std.proofs.Common.{◌≡◌, ◌++◌, map, take}
use Rattle.std.specs.String.{string_bytes}
use Rattle.code_blocks.specs.Blocks.{code_byte}
use Rattle.code_blocks.proofs.blocks.push_code.Given as goal

abbrev pub invariant-loop-byte : goal.invariant-loop-byte
invariant-loop-byte l = string_bytes l.text ≡ string_bytes l.fn.text ++ map code_byte (take l.byte-index l.line)

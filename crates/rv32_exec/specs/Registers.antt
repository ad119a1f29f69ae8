-- Reading and writing the registers of a context.
use Rattle.std.specs.Prelude.{ℕ, ◌+◌, ◌%◌, ◌^◌, List, if◌then◌else◌, ◌==◌, slice_index, slice_set}
use Rattle.rv32_exec.specs.declared.contexts.Context.{Context}

-- x0 holds 0, whatever stands in its place
abbrev pub register_of : Context → ℕ → ℕ
register_of c r = if r == 0 then 0 else slice_index c.regs r

-- a write to x0 is lost
abbrev pub with_register : Context → ℕ → ℕ → List ℕ
with_register c r value = if r == 0 then c.regs else slice_set c.regs r value

-- the sum at 32 bits
abbrev pub sum_of : ℕ → ℕ → ℕ
sum_of a b = (a + b) % 2 ^ 32

-- the address of the next instruction
abbrev pub next_of : Context → ℕ
next_of c = sum_of c.pc 4

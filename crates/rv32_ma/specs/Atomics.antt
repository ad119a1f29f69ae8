-- The word that an atomic operation leaves in memory.
use Rattle.std.specs.Prelude.{ℕ, ◌+◌, ◌%◌, ◌^◌, min, max, int_lt, bit_and, bit_or, bit_xor, if◌then◌else◌}
use Rattle.rv32_ma.specs.Products.{signed}
use Rattle.rv32_ma.specs.declared.atomics.AmoOp.{AmoOp}
use Rattle.rv32_ma.specs.declared.atomics.AmoOp.TheVariants.{Add, Swap, Xor, Or, And, Min, Max, Minu, Maxu}

-- of the word that was there, and the operand
abbrev pub amo_of : AmoOp → ℕ → ℕ → ℕ
amo_of Add old operand = (old + operand) % 2 ^ 32
amo_of Swap old operand = operand
amo_of Xor old operand = bit_xor old operand
amo_of Or old operand = bit_or old operand
amo_of And old operand = bit_and old operand
amo_of Min old operand = if int_lt (signed operand) (signed old) then operand else old
amo_of Max old operand = if int_lt (signed old) (signed operand) then operand else old
amo_of Minu old operand = min old operand
amo_of Maxu old operand = max old operand

-- Products, quotients and remainders of 32-bit words, as integers have them.
use Rattle.std.specs.Prelude.{ℕ, ◌-◌, ◌/◌, ◌%◌, ◌^◌, ℤ, pos, negsuc, ◌*ℤ◌, int_div, int_rem, if◌then◌else◌, ◌==◌}
use Rattle.std.specs.Int.{w32, cast_signed}
use Rattle.rv32_ma.specs.declared.products.MulOp.{MulOp}
use Rattle.rv32_ma.specs.declared.products.MulOp.TheVariants.{Mul, Mulh, Mulhsu, Mulhu, Div, Divu, Rem, Remu}

-- the integer that a word holds in two's complement
abbrev pub signed : ℕ → ℤ
signed = cast_signed w32

-- the word that an integer is modulo 2 ^ 32
abbrev pub low_word : ℤ → ℕ
low_word (pos n) = n % 2 ^ 32
low_word (negsuc n) = 2 ^ 32 - 1 - n % 2 ^ 32

-- the word above the lowest one: that of the integer over 2 ^ 32, rounded down
abbrev pub high_word : ℤ → ℕ
high_word (pos n) = low_word (pos (n / 2 ^ 32))
high_word (negsuc n) = low_word (negsuc (n / 2 ^ 32))

-- What each operation makes of two words. A quotient is rounded towards zero, and its remainder has the
-- dividend's sign. A quotient by zero is all ones, and its remainder the dividend. The one quotient that no
-- signed word holds, that of the least integer by -1, keeps its low word, which is the dividend.
abbrev pub mul_div_of : MulOp → ℕ → ℕ → ℕ
mul_div_of Mul a b = low_word (pos a *ℤ pos b)
mul_div_of Mulh a b = high_word (signed a *ℤ signed b)
mul_div_of Mulhsu a b = high_word (signed a *ℤ pos b)
mul_div_of Mulhu a b = high_word (pos a *ℤ pos b)
mul_div_of Div a b = if b == 0 then 2 ^ 32 - 1 else low_word (int_div (signed a) (signed b))
mul_div_of Divu a b = if b == 0 then 2 ^ 32 - 1 else a / b
mul_div_of Rem a b = if b == 0 then a else low_word (int_rem (signed a) (signed b))
mul_div_of Remu a b = if b == 0 then a else a % b

-- Instructions that go to a target.
use Rattle.std.specs.Prelude.{ℤ, pos, negsuc, Option}
use Rattle.rv32_isa.specs.declared.forms.Instr.{Instr}
use Rattle.rv32_isa.specs.declared.forms.Instr.TheVariants as forms
use Rattle.rv32_isa.specs.Table.{IsRegister}
use Rattle.std.specs.Option.{option_map}
use Rattle.rv32_asm.specs.Fields.{where_in}
use Rattle.rv32_asm.specs.declared.forms.Aim.{Aim}
use Rattle.rv32_asm.specs.declared.forms.Aim.TheVariants as aims

abbrev pub IsAim : Aim → Type 0
IsAim (aims.Jal rd) = IsRegister rd
IsAim (aims.Beq rs1 rs2) = IsRegister rs1 × IsRegister rs2
IsAim (aims.Bne rs1 rs2) = IsRegister rs1 × IsRegister rs2
IsAim (aims.Blt rs1 rs2) = IsRegister rs1 × IsRegister rs2
IsAim (aims.Bge rs1 rs2) = IsRegister rs1 × IsRegister rs2
IsAim (aims.Bltu rs1 rs2) = IsRegister rs1 × IsRegister rs2
IsAim (aims.Bgeu rs1 rs2) = IsRegister rs1 × IsRegister rs2

-- the instruction over a distance
abbrev pub aimed : Aim → ℤ → Instr
aimed (aims.Jal rd) z = forms.Jal rd z
aimed (aims.Beq rs1 rs2) z = forms.Beq rs1 rs2 z
aimed (aims.Bne rs1 rs2) z = forms.Bne rs1 rs2 z
aimed (aims.Blt rs1 rs2) z = forms.Blt rs1 rs2 z
aimed (aims.Bge rs1 rs2) z = forms.Bge rs1 rs2 z
aimed (aims.Bltu rs1 rs2) z = forms.Bltu rs1 rs2 z
aimed (aims.Bgeu rs1 rs2) z = forms.Bgeu rs1 rs2 z

-- how far back and ahead it goes
abbrev pub least : Aim → ℤ
least (aims.Jal rd) = negsuc 1048575
least _ = negsuc 4095

abbrev pub greatest : Aim → ℤ
greatest (aims.Jal rd) = pos 1048574
greatest _ = pos 4094

-- the instruction, where the distance is in reach
unfoldable pub reaching : Aim → ℤ → Option Instr
reaching aim z = option_map (aimed aim) (where_in (least aim) (greatest aim) z)

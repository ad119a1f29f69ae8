-- What the text that is made from a number declares.
use Rattle.std.specs.Prelude.{◌≡◌, ℕ, zero, suc, ◌+◌, ◌*◌, ◌==◌, true, false, if◌then◌else◌, List, [], ◌∷◌, ◌++◌, Option, Some, None, Ok}
use Rattle.cache_ident.specs.declared.names.Caps.{Caps}
use Rattle.cache_ident.specs.declared.names.ThreadNo.{ThreadNo}
use Rattle.phys_groups.specs.declared.rows.Flags.{Flags}
use Rattle.scenario_print.specs.flat_state.specs.declared.events.Decl.{Decl}
use Rattle.scenario_print.specs.flat_state.specs.declared.events.Machine.{Machine}
use Rattle.scenario_print.specs.flat_state.specs.declared.events.Decl.TheVariants as decls
use Rattle.scenario_print.specs.rv32_asm.specs.Block.{block}
use Rattle.scenario_print.specs.scenario_reader.specs.Readings.{word_decls}
use Rattle.scenario_gen.specs.Generated.{messages, rounds, stage_of, pipeline_of, program_of, operand_of, stages, worker}

-- those for 0, 1 and so on below n
abbrev pub decls_for : (ℕ → List Decl) → ℕ → List Decl
decls_for each zero = []
decls_for each (suc n) = decls_for each n ++ each n

-- kernel 0 may lock itself, and nothing else may be locked
abbrev pub limits : ℕ → Caps
limits n = record { kernels = if n == 0 then 1 else 0; spaces = 0; threads = 0; mappings = 0 }

-- 13 groups of memory, and caches that hold less than all
abbrev pub machine : Machine
machine = record { groups = 13; caps = record { kernels = 8; spaces = 8; threads = 16; mappings = 64 } }

-- ---- kernels, spaces and threads

abbrev pub kernel : ℕ → List Decl
kernel n = decls.Kernel (record { 0 = n }) (limits n) ∷ []

abbrev pub right : ℕ → ℕ → Decl
right n group = decls.Right (record { 0 = n }) group true true

abbrev pub rights : ℕ → List Decl
rights n = right n 0 ∷ right n (1 + n) ∷ right n (5 + n) ∷ right n (9 + n) ∷ []

abbrev pub space : ℕ → List Decl
space s = decls.Space (record { 0 = s }) (record { 0 = stage_of s }) ∷ []

abbrev pub thread : ℕ → ℕ → ℕ → ℕ → ℕ → ℕ → Decl
thread n s pc priority a0 a1 = decls.Thread (record { 0 = n }) (record { 0 = s }) pc priority a0 a1

abbrev pub threads : ℕ → ℕ → List Decl
threads seed s =
    thread (3 * s) s (program_of (stage_of s)) 1 (messages seed) (operand_of seed s)
    ∷ thread (3 * s + 1) s 148 0 131072 (rounds seed) ∷ thread (3 * s + 2) s 148 0 131076 (rounds seed) ∷ []

-- ---- rows

abbrev pub row : ℕ → ℕ → ℕ → Flags → Option ThreadNo → Decl
row s page frame flags receiver = decls.Map (record { 0 = s }) (record { 0 = page }) (record { 0 = frame }) flags receiver

abbrev pub inbox : ℕ → List Decl
inbox s = if stage_of s == 0 then [] else row s 16 (3 * pipeline_of s + stage_of s) (record { r = true; w = false; x = false; m = false }) (Some (record { 0 = 3 * s })) ∷ []

abbrev pub outbox : ℕ → List Decl
outbox s = if stage_of s == 3 then [] else row s 17 (1 + 3 * pipeline_of s + stage_of s) (record { r = true; w = true; x = false; m = true }) None ∷ []

abbrev pub page : ℕ → ℕ → List Decl
page s i = row s (32 + i) (128 * (1 + s) + i) (record { r = true; w = true; x = false; m = false }) None ∷ []

abbrev pub rows : ℕ → List Decl
rows s = row s 0 0 (record { r = false; w = false; x = true; m = false }) None ∷ (inbox s ++ (outbox s ++ decls_for (page s) 48))

-- ---- the whole

-- four kernels with their rights, twelve spaces, three threads in each, and the rows of each
abbrev pub behind_kernels : ℕ → List Decl
behind_kernels seed = decls_for rights 4 ++ (decls_for space 12 ++ (decls_for (threads seed) 12 ++ decls_for rows 12))

abbrev pub before_code : ℕ → List Decl
before_code seed = decls.Machine machine ∷ (decls_for kernel 4 ++ behind_kernels seed)

-- all that, and the words of the programs from the beginning of memory on
pub record AreOf (seed : ℕ) (ds : List Decl) : Type 0 where
  pub words : List ℕ
  pub assembled : block 1024 (stages ++ worker) ≡ Ok words
  pub whole : ds ≡ before_code seed ++ word_decls (record { 0 = 0 }) 0 words

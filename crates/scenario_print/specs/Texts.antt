-- The text of a scenario: a line for each declaration, in which single spaces divide the fields.
use Rattle.std.specs.Prelude.{ℕ, List, [], ◌∷◌, ◌++◌, map, codes, Option, Some, None}
use Rattle.std.specs.Fmt.{decimal}
use Rattle.std.specs.List.{flat_map}
use Rattle.cache_ident.specs.declared.names.Caps.{Caps}
use Rattle.cache_ident.specs.declared.names.ThreadNo.{ThreadNo}
use Rattle.flat_state.specs.declared.events.Decl.{Decl}
use Rattle.flat_state.specs.declared.events.Decl.TheVariants as decls
use Rattle.text_fields.specs.Numbers.{word_text}
use Rattle.journal_text.specs.Lines.{rights_text, flags_text}

-- a space and a field
abbrev pub spaced : List ℕ → List ℕ
spaced field = 32 ∷ field

-- a word, and numbers behind it
unfoldable pub numbers : List ℕ → List ℕ → List ℕ
numbers word values = word ++ flat_map spaced (map decimal values)

abbrev pub amounts : Caps → List ℕ
amounts caps = caps.kernels ∷ caps.spaces ∷ caps.threads ∷ caps.mappings ∷ []

unfoldable pub signal_text : Option ThreadNo → List ℕ
signal_text None = []
signal_text (Some thread) = numbers (codes " signal") (thread.0 ∷ [])

-- The line of a declaration. The machine has two: its memory, and its capacities. What could be left out is written too.
unfoldable pub decl_text : Decl → List ℕ
decl_text (decls.Machine machine) = numbers (codes "mem") (machine.groups ∷ []) ++ numbers (codes "\ncaps") (amounts machine.caps) ++ codes "\n"
decl_text (decls.Kernel n limits) = numbers (codes "kernel") (n.0 ∷ []) ++ numbers (codes " locks") (amounts limits) ++ codes "\n"
decl_text (decls.Right kernel group read write) = numbers (codes "right") (kernel.0 ∷ group ∷ []) ++ spaced (rights_text read write) ++ codes "\n"
decl_text (decls.Space n kernel) = numbers (codes "space") (n.0 ∷ kernel.0 ∷ []) ++ codes "\n"
decl_text (decls.Thread n space pc priority a0 a1) =
    numbers (codes "thread") (n.0 ∷ space.0 ∷ pc ∷ []) ++ numbers (codes " prio") (priority ∷ []) ++ numbers (codes " a0") (a0 ∷ [])
    ++ numbers (codes " a1") (a1 ∷ []) ++ codes "\n"
decl_text (decls.Map space vpn frame flags receiver) =
    numbers (codes "map") (space.0 ∷ vpn.0 ∷ frame.0 ∷ []) ++ spaced (flags_text flags) ++ signal_text receiver ++ codes "\n"
decl_text (decls.Word frame offset value) = numbers (codes "word") (frame.0 ∷ offset ∷ []) ++ spaced (word_text value) ++ codes "\n"

-- the lines of all, and the end
abbrev pub scenario_text : List Decl → List ℕ
scenario_text ds = flat_map decl_text ds ++ codes "end\n"

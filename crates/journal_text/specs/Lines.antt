-- The line of each entry.
use Rattle.std.specs.Prelude.{ℕ, Bool, not, ◌||◌, if◌then◌else◌, List, [], ◌∷◌, ◌++◌, codes, Option, Some, None}
use Rattle.std.specs.Fmt.{decimal}
use Rattle.std.specs.List.{flat_map}
use Rattle.text_fields.specs.Numbers.{word_text}
use Rattle.cache_ident.specs.declared.names.Caps.{Caps}
use Rattle.cache_ident.specs.declared.names.ThreadNo.{ThreadNo}
use Rattle.cache_ident.specs.Idents.{ident_text, cause_text}
use Rattle.cache_ident.specs.Names.{name_text}
use Rattle.phys_groups.specs.declared.rows.Flags.{Flags}
use Rattle.flat_state.specs.declared.events.Decl.{Decl}
use Rattle.flat_state.specs.declared.events.Decl.TheVariants as decls
use Rattle.run_journal.specs.declared.entries.Entry.{Entry}
use Rattle.run_journal.specs.declared.entries.Entry.TheVariants.{Declared, Sealed, Loaded, WrittenBack, Locked, Unlocked, Ran, Ended, Completed}

-- a space and a number
unfoldable pub field : ℕ → List ℕ
field n = codes " " ++ decimal n

unfoldable pub caps_text : Caps → List ℕ
caps_text caps = field caps.kernels ++ field caps.spaces ++ field caps.threads ++ field caps.mappings

-- a letter for a flag that is set
abbrev pub flag_text : Bool → List ℕ → List ℕ
flag_text is_set letter = if is_set then letter else []

-- `r`, `w` or both, and `-` for neither
abbrev pub rights_text : Bool → Bool → List ℕ
rights_text read write = flag_text read (codes "r") ++ flag_text write (codes "w") ++ flag_text (not (read || write)) (codes "-")

-- the letters of the flags that are set, in this order, and `-` for none
abbrev pub flags_text : Flags → List ℕ
flags_text f =
    flag_text f.r (codes "r") ++ flag_text f.w (codes "w") ++ flag_text f.x (codes "x") ++ flag_text f.m (codes "m")
    ++ flag_text (not (f.r || (f.w || (f.x || f.m)))) (codes "-")

-- `-` for no receiver
abbrev pub receiver_text : Option ThreadNo → List ℕ
receiver_text None = codes " -"
receiver_text (Some thread) = field thread.0

unfoldable pub cpu_text : ℕ → List ℕ
cpu_text cpu = codes " cpu" ++ field cpu

-- a word, and then numbers
abbrev pub fields : List ℕ → List ℕ → List ℕ
fields word values = word ++ flat_map field values

unfoldable pub decl_text : Decl → List ℕ
decl_text (decls.Machine machine) = fields (codes "machine") (machine.groups ∷ []) ++ caps_text machine.caps
decl_text (decls.Kernel kernel limits) = fields (codes "kernel") (kernel.0 ∷ []) ++ caps_text limits
decl_text (decls.Right kernel group read write) = fields (codes "right") (kernel.0 ∷ group ∷ []) ++ codes " " ++ rights_text read write
decl_text (decls.Space space kernel) = fields (codes "space") (space.0 ∷ kernel.0 ∷ [])
decl_text (decls.Thread thread space pc priority a0 a1) = fields (codes "thread") (thread.0 ∷ space.0 ∷ pc ∷ priority ∷ a0 ∷ a1 ∷ [])
decl_text (decls.Map space vpn frame flags receiver) =
    fields (codes "map") (space.0 ∷ vpn.0 ∷ frame.0 ∷ []) ++ codes " " ++ flags_text flags ++ receiver_text receiver
decl_text (decls.Word frame offset value) = fields (codes "word") (frame.0 ∷ offset ∷ []) ++ codes " " ++ word_text value

unfoldable pub entry_text : Entry → List ℕ
entry_text (Declared d) = decl_text d
entry_text Sealed = codes "sealed"
entry_text (Loaded ident name cpu) = codes "loaded " ++ ident_text ident ++ codes " " ++ name_text name ++ cpu_text cpu
entry_text (WrittenBack ident cause cpu) = codes "back " ++ ident_text ident ++ codes " " ++ cause_text cause ++ cpu_text cpu
entry_text (Locked ident cpu) = codes "locked " ++ ident_text ident ++ cpu_text cpu
entry_text (Unlocked ident cpu) = codes "unlocked " ++ ident_text ident ++ cpu_text cpu
entry_text (Ran thread steps cpu) = fields (codes "ran") (thread.0 ∷ steps ∷ []) ++ cpu_text cpu
entry_text (Ended thread cpu) = fields (codes "ended") (thread.0 ∷ []) ++ cpu_text cpu
entry_text (Completed thread cpu) = fields (codes "completed") (thread.0 ∷ []) ++ cpu_text cpu

-- ended by a line feed
unfoldable pub line : Entry → List ℕ
line e = entry_text e ++ codes "\n"

abbrev pub journal_text : List Entry → List ℕ
journal_text es = flat_map line es

-- An entry whose line stands at the front is read.
use Rattle.std.proofs.Common.{◌≡◌, ℕ, List, [], ◌∷◌, ◌++◌, Option, Some, None, refl, sym, ap, ◌∙◌, append_assoc}
use Rattle.std.specs.Prelude.{codes}
use Rattle.std.proofs.lemmas.List.{append-nil}
use Rattle.cache_ident.specs.declared.idents.Ident.{Ident}
use Rattle.cache_ident.specs.declared.names.ThreadNo.{ThreadNo}
use Rattle.cache_ident.specs.Idents.{ident_text, cause_text}
use Rattle.cache_ident.specs.Names.{name_text}
use Rattle.flat_state.specs.declared.events.Decl.{Decl}
use Rattle.flat_state.specs.declared.events.Decl.TheVariants as decls
use Rattle.run_journal.specs.declared.entries.Entry.{Entry}
use Rattle.run_journal.specs.declared.entries.Entry.TheVariants.{Declared, Sealed, Loaded, WrittenBack, Locked, Unlocked, Ran, Ended, Completed}
use Rattle.text_fields.specs.Numbers.{word_text}
use Rattle.journal_text.specs.Lines.{field, caps_text, rights_text, flags_text, receiver_text, cpu_text, decl_text, entry_text, line}
use Rattle.journal_text.specs.Reading.{receiver_at, machine_at, kernel_at, right_at, space_at, thread_at, map_at, word_decl_at, decl_at, loaded_at, back_at, lock_at, ran_at, thread_line_at, other_at, entry_at}
use Rattle.journal_text.specs.Ranges.{IsSmall, IsIdentInRange, IsDeclInRange, IsInRange}
use Rattle.journal_text.proofs.FieldLaws.{after_again, after_other, field_again, field_ends, caps_again, caps_ends, rights_again, flags_again, receiver_tail, receiver_spaced, receiver_again, word_again, ident_again, name_again, cause_again, cpu_again, cpu_ends}

-- ---- the same text from the right, as it is read

one_field : (w a b rest : List ℕ) → (w ++ (a ++ []) ++ b) ++ rest ≡ w ++ (a ++ (b ++ rest))
one_field w a b rest = simp (append_assoc, append-nil)

two_fields : (w a b rest : List ℕ) → (w ++ (a ++ (b ++ []))) ++ rest ≡ w ++ (a ++ (b ++ rest))
two_fields w a b rest = simp (append_assoc, append-nil)

two_fields_and : (w a b c rest : List ℕ) → (w ++ (a ++ (b ++ [])) ++ c) ++ rest ≡ w ++ (a ++ (b ++ (c ++ rest)))
two_fields_and w a b c rest = simp (append_assoc, append-nil)

two_fields_with : (w a b c d rest : List ℕ) → (w ++ (a ++ (b ++ [])) ++ c ++ d) ++ rest ≡ w ++ (a ++ (b ++ (c ++ (d ++ rest))))
two_fields_with w a b c d rest = simp (append_assoc, append-nil)

six_fields : (w a b c d e f rest : List ℕ) → (w ++ (a ++ (b ++ (c ++ (d ++ (e ++ (f ++ []))))))) ++ rest ≡ w ++ (a ++ (b ++ (c ++ (d ++ (e ++ (f ++ rest))))))
six_fields w a b c d e f rest = simp (append_assoc, append-nil)

map_fields : (w a b c d e f rest : List ℕ) → (w ++ (a ++ (b ++ (c ++ []))) ++ d ++ e ++ f) ++ rest ≡ w ++ (a ++ (b ++ (c ++ (d ++ (e ++ (f ++ rest))))))
map_fields w a b c d e f rest = simp (append_assoc, append-nil)

pub five_parts : (a b c d e rest : List ℕ) → (a ++ b ++ c ++ d ++ e) ++ rest ≡ a ++ (b ++ (c ++ (d ++ (e ++ rest))))
five_parts a b c d e rest = simp append_assoc

three_parts : (a b c rest : List ℕ) → (a ++ b ++ c) ++ rest ≡ a ++ (b ++ (c ++ rest))
three_parts a b c rest = simp append_assoc

-- ---- declarations

-- a line feed and what follows it
abbrev ended : List ℕ → List ℕ
ended rest = 10 ∷ rest

machine_again : (groups : ℕ) (caps : _) (rest : List ℕ) → IsDeclInRange (decls.Machine (record { groups = groups; caps = caps })) → machine_at (field groups ++ (caps_text caps ++ ended rest)) ≡ Some (decls.Machine (record { groups = groups; caps = caps }))
unfolding machine_at
machine_again groups caps rest small = rw (field_again groups (caps_text caps ++ ended rest) small.0 (caps_ends caps (ended rest)), caps_again caps (ended rest) small.1 refl) refl

kernel_again : (number : ℕ) (limits : _) (rest : List ℕ) → IsDeclInRange (decls.Kernel (record { 0 = number }) limits) → kernel_at (field number ++ (caps_text limits ++ ended rest)) ≡ Some (decls.Kernel (record { 0 = number }) limits)
unfolding kernel_at
kernel_again number limits rest small = rw (field_again number (caps_text limits ++ ended rest) small.0 (caps_ends limits (ended rest)), caps_again limits (ended rest) small.1 refl) refl

right_again : (kernel group : ℕ) (read write : _) (rest : List ℕ) → IsSmall kernel → IsSmall group → right_at (field kernel ++ (field group ++ (codes " " ++ (rights_text read write ++ ended rest)))) ≡ Some (decls.Right (record { 0 = kernel }) group read write)
unfolding right_at
right_again kernel group read write rest small low =
    let tail = codes " " ++ (rights_text read write ++ ended rest) in
    rw (field_again kernel (field group ++ tail) small (field_ends group tail), field_again group tail low refl, rights_again read write rest) refl

space_again : (number kernel : ℕ) (rest : List ℕ) → IsSmall number → IsSmall kernel → space_at (field number ++ (field kernel ++ ended rest)) ≡ Some (decls.Space (record { 0 = number }) (record { 0 = kernel }))
unfolding space_at
space_again number kernel rest small low = rw (field_again number (field kernel ++ ended rest) small (field_ends kernel (ended rest)), field_again kernel (ended rest) low refl) refl

thread_again : (number space pc priority a0 a1 : ℕ) (rest : List ℕ) → IsDeclInRange (decls.Thread (record { 0 = number }) (record { 0 = space }) pc priority a0 a1) → thread_at (field number ++ (field space ++ (field pc ++ (field priority ++ (field a0 ++ (field a1 ++ ended rest)))))) ≡ Some (decls.Thread (record { 0 = number }) (record { 0 = space }) pc priority a0 a1)
unfolding thread_at
thread_again number space pc priority a0 a1 rest small =
    let t5 = field a1 ++ ended rest in
    let t4 = field a0 ++ t5 in
    let t3 = field priority ++ t4 in
    let t2 = field pc ++ t3 in
    let t1 = field space ++ t2 in
    rw (field_again number t1 small.0 (field_ends space t2), field_again space t2 small.1 (field_ends pc t3), field_again pc t3 small.2 (field_ends priority t4), field_again priority t4 small.3 (field_ends a0 t5), field_again a0 t5 small.4 (field_ends a1 (ended rest)), field_again a1 (ended rest) small.5 refl) refl

map_again : (space vpn frame : ℕ) (flags : _) (receiver : Option ThreadNo) (rest : List ℕ) → IsDeclInRange (decls.Map (record { 0 = space }) (record { 0 = vpn }) (record { 0 = frame }) flags receiver) → map_at (field space ++ (field vpn ++ (field frame ++ (codes " " ++ (flags_text flags ++ (receiver_text receiver ++ ended rest)))))) ≡ Some (decls.Map (record { 0 = space }) (record { 0 = vpn }) (record { 0 = frame }) flags receiver)
unfolding map_at
map_again space vpn frame flags receiver rest small =
    let last = receiver_tail receiver ++ ended rest in
    let spaced : receiver_text receiver ++ ended rest ≡ 32 ∷ last = ap (λ (t : List ℕ). t ++ ended rest) (receiver_spaced receiver) in
    let tail = codes " " ++ (flags_text flags ++ (32 ∷ last)) in
    let t2 = field frame ++ tail in
    let t1 = field vpn ++ t2 in
    let read_last : _ = ap (λ (t : List ℕ). receiver_at t) (sym spaced) ∙ receiver_again receiver rest small.3 in
    ap (λ (t : List ℕ). map_at (field space ++ (field vpn ++ (field frame ++ (codes " " ++ (flags_text flags ++ t)))))) spaced
    ∙ rw (field_again space t1 small.0 (field_ends vpn t2), field_again vpn t2 small.1 (field_ends frame tail), field_again frame tail small.2 refl, flags_again flags last, read_last) refl

word_decl_again : (frame offset value : ℕ) (rest : List ℕ) → IsDeclInRange (decls.Word (record { 0 = frame }) offset value) → word_decl_at (field frame ++ (field offset ++ (codes " " ++ (word_text value ++ ended rest)))) ≡ Some (decls.Word (record { 0 = frame }) offset value)
unfolding word_decl_at
word_decl_again frame offset value rest small =
    let tail = codes " " ++ (word_text value ++ ended rest) in
    rw (field_again frame (field offset ++ tail) small.0 (field_ends offset tail), field_again offset tail small.1 refl, word_again value (ended rest) small.2) refl

-- no declaration begins as another entry does
declared_at : (bytes : List ℕ) (d : Decl) → other_at bytes ≡ None → decl_at bytes ≡ Some d → entry_at bytes ≡ Some (Declared d)
unfolding entry_at
declared_at bytes d none read = rw (none, read) refl

pub decl_again : (d : Decl) (rest : List ℕ) → IsDeclInRange d → entry_at (decl_text d ++ ended rest) ≡ Some (Declared d)
unfolding decl_text decl_at other_at
decl_again (decls.Machine machine) rest small =
    let x = field machine.groups ++ (caps_text machine.caps ++ ended rest) in
    let w = codes "machine" ++ x in
    ap entry_at (one_field (codes "machine") (field machine.groups) (caps_text machine.caps) (ended rest))
    ∙ declared_at w (decls.Machine machine)
    (rw (after_other (codes "ran") w refl, after_other (codes "loaded ") w refl, after_other (codes "back ") w refl, after_other (codes "completed") w refl, after_other (codes "ended") w refl, after_other (codes "locked ") w refl, after_other (codes "unlocked ") w refl, after_other (codes "sealed") w refl) refl)
    (rw (after_other (codes "map") w refl, after_other (codes "word") w refl, after_other (codes "thread") w refl, after_other (codes "space") w refl, after_other (codes "right") w refl, after_other (codes "kernel") w refl, after_again (codes "machine") x) (machine_again machine.groups machine.caps rest small))
decl_again (decls.Kernel kernel limits) rest small =
    let x = field kernel.0 ++ (caps_text limits ++ ended rest) in
    let w = codes "kernel" ++ x in
    ap entry_at (one_field (codes "kernel") (field kernel.0) (caps_text limits) (ended rest))
    ∙ declared_at w (decls.Kernel kernel limits)
    (rw (after_other (codes "ran") w refl, after_other (codes "loaded ") w refl, after_other (codes "back ") w refl, after_other (codes "completed") w refl, after_other (codes "ended") w refl, after_other (codes "locked ") w refl, after_other (codes "unlocked ") w refl, after_other (codes "sealed") w refl) refl)
    (rw (after_other (codes "map") w refl, after_other (codes "word") w refl, after_other (codes "thread") w refl, after_other (codes "space") w refl, after_other (codes "right") w refl, after_again (codes "kernel") x) (kernel_again kernel.0 limits rest small))
decl_again (decls.Right kernel group read write) rest small =
    let x = field kernel.0 ++ (field group ++ (codes " " ++ (rights_text read write ++ ended rest))) in
    let w = codes "right" ++ x in
    ap entry_at (two_fields_with (codes "right") (field kernel.0) (field group) (codes " ") (rights_text read write) (ended rest))
    ∙ declared_at w (decls.Right kernel group read write)
    (rw (after_other (codes "ran") w refl, after_other (codes "loaded ") w refl, after_other (codes "back ") w refl, after_other (codes "completed") w refl, after_other (codes "ended") w refl, after_other (codes "locked ") w refl, after_other (codes "unlocked ") w refl, after_other (codes "sealed") w refl) refl)
    (rw (after_other (codes "map") w refl, after_other (codes "word") w refl, after_other (codes "thread") w refl, after_other (codes "space") w refl, after_again (codes "right") x) (right_again kernel.0 group read write rest small.0 small.1))
decl_again (decls.Space space kernel) rest small =
    let x = field space.0 ++ (field kernel.0 ++ ended rest) in
    let w = codes "space" ++ x in
    ap entry_at (two_fields (codes "space") (field space.0) (field kernel.0) (ended rest))
    ∙ declared_at w (decls.Space space kernel)
    (rw (after_other (codes "ran") w refl, after_other (codes "loaded ") w refl, after_other (codes "back ") w refl, after_other (codes "completed") w refl, after_other (codes "ended") w refl, after_other (codes "locked ") w refl, after_other (codes "unlocked ") w refl, after_other (codes "sealed") w refl) refl)
    (rw (after_other (codes "map") w refl, after_other (codes "word") w refl, after_other (codes "thread") w refl, after_again (codes "space") x) (space_again space.0 kernel.0 rest small.0 small.1))
decl_again (decls.Thread thread space pc priority a0 a1) rest small =
    let x = field thread.0 ++ (field space.0 ++ (field pc ++ (field priority ++ (field a0 ++ (field a1 ++ ended rest))))) in
    let w = codes "thread" ++ x in
    ap entry_at (six_fields (codes "thread") (field thread.0) (field space.0) (field pc) (field priority) (field a0) (field a1) (ended rest))
    ∙ declared_at w (decls.Thread thread space pc priority a0 a1)
    (rw (after_other (codes "ran") w refl, after_other (codes "loaded ") w refl, after_other (codes "back ") w refl, after_other (codes "completed") w refl, after_other (codes "ended") w refl, after_other (codes "locked ") w refl, after_other (codes "unlocked ") w refl, after_other (codes "sealed") w refl) refl)
    (rw (after_other (codes "map") w refl, after_other (codes "word") w refl, after_again (codes "thread") x) (thread_again thread.0 space.0 pc priority a0 a1 rest small))
decl_again (decls.Map space vpn frame flags receiver) rest small =
    let x = field space.0 ++ (field vpn.0 ++ (field frame.0 ++ (codes " " ++ (flags_text flags ++ (receiver_text receiver ++ ended rest))))) in
    let w = codes "map" ++ x in
    ap entry_at (map_fields (codes "map") (field space.0) (field vpn.0) (field frame.0) (codes " ") (flags_text flags) (receiver_text receiver) (ended rest))
    ∙ declared_at w (decls.Map space vpn frame flags receiver)
    (rw (after_other (codes "ran") w refl, after_other (codes "loaded ") w refl, after_other (codes "back ") w refl, after_other (codes "completed") w refl, after_other (codes "ended") w refl, after_other (codes "locked ") w refl, after_other (codes "unlocked ") w refl, after_other (codes "sealed") w refl) refl)
    (rw (after_again (codes "map") x) (map_again space.0 vpn.0 frame.0 flags receiver rest small))
decl_again (decls.Word frame offset value) rest small =
    let x = field frame.0 ++ (field offset ++ (codes " " ++ (word_text value ++ ended rest))) in
    let w = codes "word" ++ x in
    ap entry_at (two_fields_with (codes "word") (field frame.0) (field offset) (codes " ") (word_text value) (ended rest))
    ∙ declared_at w (decls.Word frame offset value)
    (rw (after_other (codes "ran") w refl, after_other (codes "loaded ") w refl, after_other (codes "back ") w refl, after_other (codes "completed") w refl, after_other (codes "ended") w refl, after_other (codes "locked ") w refl, after_other (codes "unlocked ") w refl, after_other (codes "sealed") w refl) refl)
    (rw (after_other (codes "map") w refl, after_again (codes "word") x) (word_decl_again frame.0 offset value rest small))

-- ---- the other entries

lock_again : (ident : Ident) (cpu : ℕ) (rest : List ℕ) → IsIdentInRange ident → IsSmall cpu → lock_at (ident_text ident ++ (cpu_text cpu ++ ended rest)) ≡ Some (ident, cpu)
unfolding lock_at
lock_again ident cpu rest small low = rw (ident_again ident (cpu_text cpu ++ ended rest) small (cpu_ends cpu (ended rest)), cpu_again cpu (ended rest) low refl) refl

thread_line_again : (thread cpu : ℕ) (rest : List ℕ) → IsSmall thread → IsSmall cpu → thread_line_at (field thread ++ (cpu_text cpu ++ ended rest)) ≡ Some (record { 0 = thread }, cpu)
unfolding thread_line_at
thread_line_again thread cpu rest small low = rw (field_again thread (cpu_text cpu ++ ended rest) small (cpu_ends cpu (ended rest)), cpu_again cpu (ended rest) low refl) refl

ran_again : (thread steps cpu : ℕ) (rest : List ℕ) → IsSmall thread → IsSmall steps → IsSmall cpu → ran_at (field thread ++ (field steps ++ (cpu_text cpu ++ ended rest))) ≡ Some (Ran (record { 0 = thread }) steps cpu)
unfolding ran_at
ran_again thread steps cpu rest small few low =
    let tail = cpu_text cpu ++ ended rest in
    rw (field_again thread (field steps ++ tail) small (field_ends steps tail), field_again steps tail few (cpu_ends cpu (ended rest)), cpu_again cpu (ended rest) low refl) refl

loaded_again : (ident : Ident) (name : _) (cpu : ℕ) (rest : List ℕ) → IsInRange (Loaded ident name cpu) → loaded_at (ident_text ident ++ (codes " " ++ (name_text name ++ (cpu_text cpu ++ ended rest)))) ≡ Some (Loaded ident name cpu)
unfolding loaded_at
loaded_again ident name cpu rest small =
    let tail = cpu_text cpu ++ ended rest in
    rw (ident_again ident (codes " " ++ (name_text name ++ tail)) small.0 refl, name_again name tail small.1 (cpu_ends cpu (ended rest)), cpu_again cpu (ended rest) small.2 refl) refl

back_again : (ident : Ident) (cause : _) (cpu : ℕ) (rest : List ℕ) → IsInRange (WrittenBack ident cause cpu) → back_at (ident_text ident ++ (codes " " ++ (cause_text cause ++ (cpu_text cpu ++ ended rest)))) ≡ Some (WrittenBack ident cause cpu)
unfolding back_at
back_again ident cause cpu rest small =
    let tail = cpu_text cpu ++ ended rest in
    rw (ident_again ident (codes " " ++ (cause_text cause ++ tail)) small.0 refl, cause_again cause tail, cpu_again cpu (ended rest) small.1 refl) refl

other_first : (bytes : List ℕ) (e : Entry) → other_at bytes ≡ Some e → entry_at bytes ≡ Some e
unfolding entry_at
other_first bytes e read = rw read refl

pub entry_text_again : (e : Entry) (rest : List ℕ) → IsInRange e → entry_at (entry_text e ++ ended rest) ≡ Some e
unfolding entry_text other_at
entry_text_again (Declared d) rest small = decl_again d rest small
entry_text_again Sealed rest small =
    let w = codes "sealed" ++ ended rest in
    other_first w Sealed (rw (after_other (codes "ran") w refl, after_other (codes "loaded ") w refl, after_other (codes "back ") w refl, after_other (codes "completed") w refl, after_other (codes "ended") w refl, after_other (codes "locked ") w refl, after_other (codes "unlocked ") w refl, after_again (codes "sealed") (ended rest)) refl)
entry_text_again (Loaded ident name cpu) rest small =
    let x = ident_text ident ++ (codes " " ++ (name_text name ++ (cpu_text cpu ++ ended rest))) in
    let w = codes "loaded " ++ x in
    ap entry_at (five_parts (codes "loaded ") (ident_text ident) (codes " ") (name_text name) (cpu_text cpu) (ended rest))
    ∙ other_first w (Loaded ident name cpu) (rw (after_other (codes "ran") w refl, after_again (codes "loaded ") x) (loaded_again ident name cpu rest small))
entry_text_again (WrittenBack ident cause cpu) rest small =
    let x = ident_text ident ++ (codes " " ++ (cause_text cause ++ (cpu_text cpu ++ ended rest))) in
    let w = codes "back " ++ x in
    ap entry_at (five_parts (codes "back ") (ident_text ident) (codes " ") (cause_text cause) (cpu_text cpu) (ended rest))
    ∙ other_first w (WrittenBack ident cause cpu) (rw (after_other (codes "ran") w refl, after_other (codes "loaded ") w refl, after_again (codes "back ") x) (back_again ident cause cpu rest small))
entry_text_again (Locked ident cpu) rest small =
    let x = ident_text ident ++ (cpu_text cpu ++ ended rest) in
    let w = codes "locked " ++ x in
    ap entry_at (three_parts (codes "locked ") (ident_text ident) (cpu_text cpu) (ended rest))
    ∙ other_first w (Locked ident cpu) (rw (after_other (codes "ran") w refl, after_other (codes "loaded ") w refl, after_other (codes "back ") w refl, after_other (codes "completed") w refl, after_other (codes "ended") w refl, after_again (codes "locked ") x, lock_again ident cpu rest small.0 small.1) refl)
entry_text_again (Unlocked ident cpu) rest small =
    let x = ident_text ident ++ (cpu_text cpu ++ ended rest) in
    let w = codes "unlocked " ++ x in
    ap entry_at (three_parts (codes "unlocked ") (ident_text ident) (cpu_text cpu) (ended rest))
    ∙ other_first w (Unlocked ident cpu) (rw (after_other (codes "ran") w refl, after_other (codes "loaded ") w refl, after_other (codes "back ") w refl, after_other (codes "completed") w refl, after_other (codes "ended") w refl, after_other (codes "locked ") w refl, after_again (codes "unlocked ") x, lock_again ident cpu rest small.0 small.1) refl)
entry_text_again (Ran thread steps cpu) rest small =
    let x = field thread.0 ++ (field steps ++ (cpu_text cpu ++ ended rest)) in
    let w = codes "ran" ++ x in
    ap entry_at (two_fields_and (codes "ran") (field thread.0) (field steps) (cpu_text cpu) (ended rest))
    ∙ other_first w (Ran thread steps cpu) (rw (after_again (codes "ran") x) (ran_again thread.0 steps cpu rest small.0 small.1 small.2))
entry_text_again (Ended thread cpu) rest small =
    let x = field thread.0 ++ (cpu_text cpu ++ ended rest) in
    let w = codes "ended" ++ x in
    ap entry_at (one_field (codes "ended") (field thread.0) (cpu_text cpu) (ended rest))
    ∙ other_first w (Ended thread cpu) (rw (after_other (codes "ran") w refl, after_other (codes "loaded ") w refl, after_other (codes "back ") w refl, after_other (codes "completed") w refl, after_again (codes "ended") x, thread_line_again thread.0 cpu rest small.0 small.1) refl)
entry_text_again (Completed thread cpu) rest small =
    let x = field thread.0 ++ (cpu_text cpu ++ ended rest) in
    let w = codes "completed" ++ x in
    ap entry_at (one_field (codes "completed") (field thread.0) (cpu_text cpu) (ended rest))
    ∙ other_first w (Completed thread cpu) (rw (after_other (codes "ran") w refl, after_other (codes "loaded ") w refl, after_other (codes "back ") w refl, after_again (codes "completed") x, thread_line_again thread.0 cpu rest small.0 small.1) refl)

-- no other entry's line stands at the front
pub entry_again : (e : Entry) (rest : List ℕ) → IsInRange e → entry_at (line e ++ rest) ≡ Some e
unfolding line
entry_again e rest small = ap entry_at (append_assoc (entry_text e) (codes "\n") rest) ∙ entry_text_again e rest small

-- The text of declarations that fit is a scenario with these declarations.
use Rattle.std.proofs.Common.{◌≡◌, ℕ, ◌+◌, ◌<◌, Bool, true, false, eqb, List, [], ◌∷◌, ◌++◌, map, length, Option, Some, None, Ok, refl, sym, ap, ap₂, ◌∙◌, append_assoc, arith}
use Rattle.std.specs.Prelude.{codes, not, nat_lt, nat_le, ◌&&◌, if◌then◌else◌}
use Rattle.std.specs.Fmt.{decimal}
use Rattle.std.specs.List.{flat_map, AllByRecursion}
use Rattle.std.proofs.lemmas.Bool.{ne_eqb}
use Rattle.std.proofs.lemmas.List.{append-nil}
use Rattle.std.proofs.lemmas.Grind.{flat_map-append}
use Rattle.cache_ident.specs.declared.names.ThreadNo.{ThreadNo}
use Rattle.flat_state.specs.declared.events.Machine.{Machine}
use Rattle.flat_state.specs.declared.events.TheConstants.{GREATEST_CAPS}
use Rattle.flat_state.specs.declared.events.Decl.{Decl}
use Rattle.flat_state.specs.declared.events.Decl.TheVariants as decls
use Rattle.flat_state.specs.State.{FlatState, nothing_declared}
use Rattle.flat_state.specs.Declaration.{broken_rule, rule_by_machine, rule_of_machine, has_no_flag, declared}
use Rattle.flat_state.specs.Events.{AllFit, after_declarations}
use Rattle.scenario_reader.specs.code_blocks.specs.Blocks.{no_lines}
use Rattle.text_fields.specs.Lines.{lines, pieces}
use Rattle.text_fields.specs.Lines as text_lines
use Rattle.text_fields.specs.Numbers.{word_text}
use Rattle.journal_text.specs.Lines.{rights_text, flags_text}
use Rattle.journal_text.specs.Ranges.{IsSmall, AreCapsInRange, IsReceiverInRange, IsDeclInRange}
use Rattle.text_fields.proofs.Words.{word_eight}
use Rattle.scenario_reader.specs.scenario_lines.specs.Forms.{Line}
use Rattle.scenario_reader.specs.scenario_lines.specs.Forms as forms
use Rattle.scenario_reader.specs.scenario_lines.specs.Shapes as shapes
use Rattle.scenario_reader.specs.scenario_lines.specs.Lines.{by_word, line_of}
use Rattle.scenario_reader.specs.image_decls.proofs.Sized.{unbroken}
use Rattle.scenario_reader.specs.Readings.{Memory, Body, Reading, start, declare, declare_all, word_decls, in_place}
use Rattle.scenario_reader.specs.Scenarios.{in_body, behind_memory, at_start, at_end, numbered, step, finish, reads, scenario}
use Rattle.scenario_print.specs.Texts.{spaced, numbers, amounts, signal_text, decl_text, scenario_text}
use Rattle.scenario_print.proofs.Lines.{IsInk, AreFields, no_fields, ink_from, line_clean, first_line}
use Rattle.scenario_print.proofs.Values.{decimal_ink, decimal_some, word_ink, rights_ink, rights_some, flags_ink, flags_some}
use Rattle.scenario_print.proofs.Forms.{by_parts, signal_fields, memory_form, capacities_form, kernel_form, right_form, space_form, thread_form, row_form, word_form}

-- ---- the fields of a line

a_number : (n : ℕ) (fs : List (List ℕ)) → IsSmall n → AreFields fs → AreFields (decimal n ∷ fs)
unfolding AreFields
a_number n fs small h = (decimal_ink n small, decimal_some n small, h)

four_numbers : (a b c d : ℕ) → IsSmall a → IsSmall b → IsSmall c → IsSmall d → AreFields (decimal a ∷ decimal b ∷ decimal c ∷ decimal d ∷ [])
four_numbers a b c d ha hb hc hd = a_number a _ ha (a_number b _ hb (a_number c _ hc (a_number d [] hd no_fields)))

a_word : (word : List ℕ) (fs : List (List ℕ)) → IsInk word → 0 < length word → AreFields fs → AreFields (word ∷ fs)
unfolding AreFields
a_word word fs ink some h = (ink, some, h)

signals : (o : Option ThreadNo) → IsReceiverInRange o → AreFields (signal_fields o)
signals None h = no_fields
signals (Some thread) h = a_word (codes "signal") _ (ink_from (codes "signal") refl) (omega arith) (a_number thread.0 [] h no_fields)

-- ---- a declaration behind the machine

-- its word, its fields, and its form
abbrev pub word_of : Decl → List ℕ
word_of (decls.Machine machine) = codes "mem"
word_of (decls.Kernel n limits) = codes "kernel"
word_of (decls.Right kernel group read write) = codes "right"
word_of (decls.Space n kernel) = codes "space"
word_of (decls.Thread n space pc priority a0 a1) = codes "thread"
word_of (decls.Map space vpn frame flags receiver) = codes "map"
word_of (decls.Word frame offset value) = codes "word"

abbrev pub fields_of : Decl → List (List ℕ)
fields_of (decls.Machine machine) = decimal machine.groups ∷ []
fields_of (decls.Kernel n limits) = decimal n.0 ∷ codes "locks" ∷ map decimal (amounts limits)
fields_of (decls.Right kernel group read write) = decimal kernel.0 ∷ decimal group ∷ rights_text read write ∷ []
fields_of (decls.Space n kernel) = decimal n.0 ∷ decimal kernel.0 ∷ []
fields_of (decls.Thread n space pc priority a0 a1) = decimal n.0 ∷ decimal space.0 ∷ decimal pc ∷ codes "prio" ∷ decimal priority ∷ codes "a0" ∷ decimal a0 ∷ codes "a1" ∷ decimal a1 ∷ []
fields_of (decls.Map space vpn frame flags receiver) = decimal space.0 ∷ decimal vpn.0 ∷ decimal frame.0 ∷ flags_text flags ∷ signal_fields receiver
fields_of (decls.Word frame offset value) = decimal frame.0 ∷ decimal offset ∷ word_text value ∷ []

abbrev form_of : Decl → Line
form_of (decls.Word frame offset value) = forms.Words frame offset (value ∷ [])
form_of (decls.Machine machine) = forms.Memory machine.groups
form_of (decls.Kernel n limits) = forms.Declares (decls.Kernel n limits)
form_of (decls.Right kernel group read write) = forms.Declares (decls.Right kernel group read write)
form_of (decls.Space n kernel) = forms.Declares (decls.Space n kernel)
form_of (decls.Thread n space pc priority a0 a1) = forms.Declares (decls.Thread n space pc priority a0 a1)
form_of (decls.Map space vpn frame flags receiver) = forms.Declares (decls.Map space vpn frame flags receiver)

-- its line is read as what it declares
record IsRead (d : Decl) : Type 0 where
  pub ink : IsInk (word_of d)
  pub some : 0 < length (word_of d)
  pub fields : AreFields (fields_of d)
  pub form : by_word (word_of d) (fields_of d) ≡ Ok (form_of d)

abbrev HasFlag : Decl → Type 0
HasFlag (decls.Map space vpn frame flags receiver) = has_no_flag flags ≡ false
HasFlag (decls.Machine machine) = Unit {0}
HasFlag (decls.Kernel n limits) = Unit {0}
HasFlag (decls.Right kernel group read write) = Unit {0}
HasFlag (decls.Space n kernel) = Unit {0}
HasFlag (decls.Thread n space pc priority a0 a1) = Unit {0}
HasFlag (decls.Word frame offset value) = Unit {0}

-- its word can be read as one, and its fields as these
pub word_ink_of : (d : Decl) → IsInk (word_of d)
word_ink_of (decls.Machine machine) = ink_from (codes "mem") refl
word_ink_of (decls.Kernel n limits) = ink_from (codes "kernel") refl
word_ink_of (decls.Right kernel group read write) = ink_from (codes "right") refl
word_ink_of (decls.Space n kernel) = ink_from (codes "space") refl
word_ink_of (decls.Thread n space pc priority a0 a1) = ink_from (codes "thread") refl
word_ink_of (decls.Map space vpn frame flags receiver) = ink_from (codes "map") refl
word_ink_of (decls.Word frame offset value) = ink_from (codes "word") refl

pub word_some_of : (d : Decl) → 0 < length (word_of d)
word_some_of (decls.Machine machine) = omega arith
word_some_of (decls.Kernel n limits) = omega arith
word_some_of (decls.Right kernel group read write) = omega arith
word_some_of (decls.Space n kernel) = omega arith
word_some_of (decls.Thread n space pc priority a0 a1) = omega arith
word_some_of (decls.Map space vpn frame flags receiver) = omega arith
word_some_of (decls.Word frame offset value) = omega arith

pub are_fields : (d : Decl) → IsDeclInRange d → AreFields (fields_of d)
are_fields (decls.Machine machine) small = a_number machine.groups [] small.0 no_fields
are_fields (decls.Kernel n limits) small = a_number n.0 _ small.0 (a_word (codes "locks") _ (ink_from (codes "locks") refl) (omega arith) (four_numbers limits.kernels limits.spaces limits.threads limits.mappings small.1.0 small.1.1 small.1.2 small.1.3))
are_fields (decls.Right kernel group read write) small = a_number kernel.0 _ small.0 (a_number group _ small.1 (a_word (rights_text read write) [] (rights_ink read write) (rights_some read write) no_fields))
are_fields (decls.Space n kernel) small = a_number n.0 _ small.0 (a_number kernel.0 [] small.1 no_fields)
are_fields (decls.Thread n space pc priority a0 a1) small =
    a_number n.0 _ small.0 (a_number space.0 _ small.1 (a_number pc _ small.2
    (a_word (codes "prio") _ (ink_from (codes "prio") refl) (omega arith) (a_number priority _ small.3
    (a_word (codes "a0") _ (ink_from (codes "a0") refl) (omega arith) (a_number a0 _ small.4
    (a_word (codes "a1") _ (ink_from (codes "a1") refl) (omega arith) (a_number a1 [] small.5 no_fields))))))))
are_fields (decls.Map space vpn frame flags receiver) small =
    a_number space.0 _ small.0 (a_number vpn.0 _ small.1 (a_number frame.0 _ small.2
    (a_word (flags_text flags) _ (flags_ink flags) (flags_some flags) (signals receiver small.3))))
are_fields (decls.Word frame offset value) small = a_number frame.0 _ small.0 (a_number offset _ small.1 (a_word (word_text value) [] (word_ink value) (omega (arith, word_eight value)) no_fields))

form_read : (d : Decl) → IsDeclInRange d → HasFlag d → by_word (word_of d) (fields_of d) ≡ Ok (form_of d)
form_read (decls.Machine machine) small flag = memory_form machine.groups small.0
form_read (decls.Kernel n limits) small flag = kernel_form n limits small.0 small.1
form_read (decls.Right kernel group read write) small flag = right_form kernel group read write small.0 small.1
form_read (decls.Space n kernel) small flag = space_form n kernel small.0 small.1
form_read (decls.Thread n space pc priority a0 a1) small flag = thread_form n space pc priority a0 a1 small.0 small.1 small.2 small.3 small.4 small.5
form_read (decls.Map space vpn frame flags receiver) small flag = row_form space vpn frame flags receiver small.0 small.1 small.2 small.3 flag
form_read (decls.Word frame offset value) small flag = word_form frame offset value small.0 small.1 small.2

is_read : (d : Decl) → IsDeclInRange d → HasFlag d → IsRead d
is_read d small flag = record { ink = word_ink_of d; some = word_some_of d; fields = are_fields d small; form = form_read d small flag }

line_is : (d : Decl) → IsRead d → line_of (word_of d ++ flat_map spaced (fields_of d)) ≡ Ok (form_of d)
line_is d r = by_parts (word_of d) (fields_of d) r.ink r.some r.fields ∙ r.form

-- ---- reading it

-- behind the machine, where these were declared
abbrev pub at_body : ℕ → FlatState → List Decl → Reading
at_body number s ds = record { number = number; place = Body; block = no_lines; bytes = []; flat = s; decls = ds }

abbrev pub IsBehind : Decl → Type 0
IsBehind (decls.Machine machine) = ⊥
IsBehind (decls.Kernel n limits) = Unit {0}
IsBehind (decls.Right kernel group read write) = Unit {0}
IsBehind (decls.Space n kernel) = Unit {0}
IsBehind (decls.Thread n space pc priority a0 a1) = Unit {0}
IsBehind (decls.Map space vpn frame flags receiver) = Unit {0}
IsBehind (decls.Word frame offset value) = Unit {0}

declares : (number : ℕ) (s : FlatState) (ds : List Decl) (d : Decl) → broken_rule s d ≡ None → declare (at_body number s ds) d ≡ Ok (at_body number (declared s d) (ds ++ d ∷ []))
unfolding declare
declares number s ds d fits = rw fits refl

one_word : (r next : Reading) (d : Decl) → declare r d ≡ Ok next → declare_all r (d ∷ []) ≡ Ok next
unfolding declare_all
one_word r next d e = rw e refl

pub takes_form : (number : ℕ) (s : FlatState) (ds : List Decl) (d : Decl) → IsBehind d → broken_rule s d ≡ None → in_body (at_body number s ds) (form_of d) ≡ Ok (at_body number (declared s d) (ds ++ d ∷ []))
unfolding in_body word_decls
takes_form number s ds (decls.Machine machine) behind fits = absurd behind
takes_form number s ds (decls.Kernel n limits) behind fits = declares number s ds (decls.Kernel n limits) fits
takes_form number s ds (decls.Right kernel group read write) behind fits = declares number s ds (decls.Right kernel group read write) fits
takes_form number s ds (decls.Space n kernel) behind fits = declares number s ds (decls.Space n kernel) fits
takes_form number s ds (decls.Thread n space pc priority a0 a1) behind fits = declares number s ds (decls.Thread n space pc priority a0 a1) fits
takes_form number s ds (decls.Map space vpn frame flags receiver) behind fits = declares number s ds (decls.Map space vpn frame flags receiver) fits
takes_form number s ds (decls.Word frame offset value) behind fits = one_word (at_body number s ds) _ (decls.Word frame offset value) (declares number s ds (decls.Word frame offset value) fits)

one_step : (number earlier : ℕ) (s : FlatState) (ds : List Decl) (d : Decl) → IsRead d → IsBehind d → broken_rule s d ≡ None
    → step number (at_body earlier s ds) (word_of d ++ flat_map spaced (fields_of d)) ≡ Ok (at_body number (declared s d) (ds ++ d ∷ []))
unfolding step
one_step number earlier s ds d read behind fits = rw (line_is d read) (takes_form number s ds d behind fits)

-- ---- a text

two_parts : (w f g n rest : List ℕ) → (((w ++ f) ++ g) ++ n) ++ rest ≡ (w ++ (f ++ g)) ++ (n ++ rest)
two_parts w f g n rest = simp append_assoc

three_parts : (w f g h n rest : List ℕ) → ((((w ++ f) ++ g) ++ h) ++ n) ++ rest ≡ (w ++ (f ++ (g ++ h))) ++ (n ++ rest)
three_parts w f g h n rest = simp append_assoc

four_parts : (w f g h k n rest : List ℕ) → (((((w ++ f) ++ g) ++ h) ++ k) ++ n) ++ rest ≡ (w ++ (f ++ (g ++ (h ++ k)))) ++ (n ++ rest)
four_parts w f g h k n rest = simp append_assoc

more_fields : (w : List ℕ) (fs gs : List (List ℕ)) (rest : List ℕ) → (((w ++ flat_map spaced fs) ++ flat_map spaced gs) ++ codes "\n") ++ rest ≡ (w ++ flat_map spaced (fs ++ gs)) ++ (10 ∷ rest)
more_fields w fs gs rest =
    two_parts w (flat_map spaced fs) (flat_map spaced gs) (codes "\n") rest ∙ ap (λ (x : List ℕ). (w ++ x) ++ (10 ∷ rest)) (sym (flat_map-append spaced fs gs))

one_field : (w : List ℕ) (fs : List (List ℕ)) (f rest : List ℕ) → (((w ++ flat_map spaced fs) ++ spaced f) ++ codes "\n") ++ rest ≡ (w ++ flat_map spaced (fs ++ f ∷ [])) ++ (10 ∷ rest)
one_field w fs f rest = ap (λ (x : List ℕ). (((w ++ flat_map spaced fs) ++ x) ++ codes "\n") ++ rest) (sym (append-nil (spaced f))) ∙ more_fields w fs (f ∷ []) rest

row_fields : (w : List ℕ) (fs : List (List ℕ)) (f : List ℕ) (gs : List (List ℕ)) (rest : List ℕ)
    → ((((w ++ flat_map spaced fs) ++ spaced f) ++ flat_map spaced gs) ++ codes "\n") ++ rest ≡ (w ++ flat_map spaced (fs ++ f ∷ gs)) ++ (10 ∷ rest)
row_fields w fs f gs rest =
    three_parts w (flat_map spaced fs) (spaced f) (flat_map spaced gs) (codes "\n") rest ∙ ap (λ (x : List ℕ). (w ++ x) ++ (10 ∷ rest)) (sym (flat_map-append spaced fs (f ∷ gs)))

thread_fields : (w : List ℕ) (fs gs hs ks : List (List ℕ)) (rest : List ℕ)
    → (((((w ++ flat_map spaced fs) ++ flat_map spaced gs) ++ flat_map spaced hs) ++ flat_map spaced ks) ++ codes "\n") ++ rest ≡ (w ++ flat_map spaced (fs ++ (gs ++ (hs ++ ks)))) ++ (10 ∷ rest)
thread_fields w fs gs hs ks rest =
    let last = flat_map-append spaced hs ks in
    let behind = flat_map-append spaced gs (hs ++ ks) ∙ ap (λ (x : List ℕ). flat_map spaced gs ++ x) last in
    let whole = flat_map-append spaced fs (gs ++ (hs ++ ks)) ∙ ap (λ (x : List ℕ). flat_map spaced fs ++ x) behind in
    four_parts w (flat_map spaced fs) (flat_map spaced gs) (flat_map spaced hs) (flat_map spaced ks) (codes "\n") rest ∙ ap (λ (x : List ℕ). (w ++ x) ++ (10 ∷ rest)) (sym whole)

pub behind_line : (d : Decl) (rest : List ℕ) → IsBehind d → decl_text d ++ rest ≡ (word_of d ++ flat_map spaced (fields_of d)) ++ (10 ∷ rest)
unfolding decl_text numbers signal_text
behind_line (decls.Machine machine) rest behind = absurd behind
behind_line (decls.Kernel n limits) rest behind = more_fields (codes "kernel") (decimal n.0 ∷ []) (codes "locks" ∷ map decimal (amounts limits)) rest
behind_line (decls.Right kernel group read write) rest behind = one_field (codes "right") (decimal kernel.0 ∷ decimal group ∷ []) (rights_text read write) rest
behind_line (decls.Space n kernel) rest behind = append_assoc (codes "space" ++ flat_map spaced (decimal n.0 ∷ decimal kernel.0 ∷ [])) (codes "\n") rest
behind_line (decls.Thread n space pc priority a0 a1) rest behind =
    thread_fields (codes "thread") (decimal n.0 ∷ decimal space.0 ∷ decimal pc ∷ []) (codes "prio" ∷ decimal priority ∷ []) (codes "a0" ∷ decimal a0 ∷ []) (codes "a1" ∷ decimal a1 ∷ []) rest
behind_line (decls.Map space vpn frame flags None) rest behind = row_fields (codes "map") (decimal space.0 ∷ decimal vpn.0 ∷ decimal frame.0 ∷ []) (flags_text flags) [] rest
behind_line (decls.Map space vpn frame flags (Some thread)) rest behind =
    row_fields (codes "map") (decimal space.0 ∷ decimal vpn.0 ∷ decimal frame.0 ∷ []) (flags_text flags) (codes "signal" ∷ decimal thread.0 ∷ []) rest
behind_line (decls.Word frame offset value) rest behind = one_field (codes "word") (decimal frame.0 ∷ decimal offset ∷ []) (word_text value) rest

-- behind the machine, what fits is no machine, and a row has a flag
is_behind : (s : FlatState) (m : Machine) (d : Decl) → s.machine ≡ Some m → broken_rule s d ≡ None → IsBehind d
unfolding broken_rule
is_behind s m d there fits = by d (sym (ap (λ (o : Option Machine). rule_by_machine o s d) there) ∙ fits)
  where
    by : (d : Decl) → rule_by_machine (Some m) s d ≡ None → IsBehind d
    by (decls.Machine machine) e = absurd cc
    by (decls.Kernel n limits) e = tt
    by (decls.Right kernel group read write) e = tt
    by (decls.Space n kernel) e = tt
    by (decls.Thread n space pc priority a0 a1) e = tt
    by (decls.Map space vpn frame flags receiver) e = tt
    by (decls.Word frame offset value) e = tt

has_flag : (s : FlatState) (m : Machine) (d : Decl) → s.machine ≡ Some m → broken_rule s d ≡ None → HasFlag d
unfolding broken_rule
has_flag s m d there fits = by d (sym (ap (λ (o : Option Machine). rule_by_machine o s d) there) ∙ fits)
  where
    by : (d : Decl) → rule_by_machine (Some m) s d ≡ None → HasFlag d
    by (decls.Map space vpn frame flags receiver) e = (unbroken (has_no_flag flags) 4 _ e).0
    by (decls.Machine machine) e = tt
    by (decls.Kernel n limits) e = tt
    by (decls.Right kernel group read write) e = tt
    by (decls.Space n kernel) e = tt
    by (decls.Thread n space pc priority a0 a1) e = tt
    by (decls.Word frame offset value) e = tt

still_there : (s : FlatState) (m : Machine) (d : Decl) → s.machine ≡ Some m → IsBehind d → (declared s d).machine ≡ Some m
unfolding declared
still_there s m (decls.Machine machine) there behind = absurd behind
still_there s m (decls.Kernel n limits) there behind = there
still_there s m (decls.Right kernel group read write) there behind = there
still_there s m (decls.Space n kernel) there behind = there
still_there s m (decls.Thread n space pc priority a0 a1) there behind = there
still_there s m (decls.Map space vpn frame flags receiver) there behind = there
still_there s m (decls.Word frame offset value) there behind = there

last_line : lines [] ≡ [] ∷ []
unfolding lines pieces
last_line = refl

end_lines : lines (codes "end\n") ≡ codes "end" ∷ [] ∷ []
end_lines = first_line (codes "end") [] (line_clean (codes "end") [] (ink_from (codes "end") refl) no_fields) ∙ ap (λ (x : List (List ℕ)). codes "end" ∷ x) last_line

pub end_reads : (number earlier : ℕ) (s : FlatState) (ds : List Decl) → 0 < length s.kernels → reads number (at_body earlier s ds) (codes "end" ∷ [] ∷ []) ≡ Ok ds
unfolding reads step in_body at_end finish line_of text_lines.without_comment text_lines.fields pieces by_word forms.bare_line shapes.no_more
end_reads number earlier s ds kernels =
    let some : eqb (length s.kernels) 0 ≡ false = ne_eqb (length s.kernels) 0 (λ e. omega (arith, e, kernels)) in
    rw some refl

pub goes : (number : ℕ) (r next : Reading) (line : List ℕ) (more : List (List ℕ)) → step number r line ≡ Ok next → reads number r (line ∷ more) ≡ reads (number + 1) next more
unfolding reads
goes number r next line more e = rw e refl

-- the lines of declarations that fit, in front of more
pub body_goes : (number earlier : ℕ) (s : FlatState) (m : Machine) (ds es : List Decl) (rest : List ℕ) → s.machine ≡ Some m → AllFit s es → AllByRecursion IsDeclInRange es
    → (last : ℕ) × (reads number (at_body earlier s ds) (lines (flat_map decl_text es ++ rest)) ≡ reads (number + length es) (at_body last (after_declarations s es) (ds ++ es)) (lines rest))
body_goes number earlier s m ds [] rest there fit small =
    (earlier, ap₂ (λ (n : ℕ) (ps : List Decl). reads n (at_body earlier s ps) (lines rest)) (omega arith) (sym (append-nil ds)))
body_goes number earlier s m ds (d ∷ es) rest there fit small =
    let behind = is_behind s m d there fit.0 in
    let read = is_read d small.0 (has_flag s m d there fit.0) in
    let more = flat_map decl_text es ++ rest in
    let line = word_of d ++ flat_map spaced (fields_of d) in
    let later = body_goes (number + 1) number (declared s d) m (ds ++ d ∷ []) es rest (still_there s m d there behind) fit.1 small.1 in (
      later.0,
      ap (λ (x : List ℕ). reads number (at_body earlier s ds) (lines x)) (append_assoc (decl_text d) (flat_map decl_text es) rest ∙ behind_line d more behind)
          ∙ ap (reads number (at_body earlier s ds)) (first_line line more (line_clean (word_of d) (fields_of d) read.ink read.fields))
          ∙ goes number (at_body earlier s ds) (at_body number (declared s d) (ds ++ d ∷ [])) line (lines more) (one_step number earlier s ds d read behind fit.0)
          ∙ later.1
          ∙ ap₂ (λ (n : ℕ) (ps : List Decl). reads n (at_body later.0 (after_declarations s (d ∷ es)) ps) (lines rest)) (omega arith) (append_assoc ds (d ∷ []) es),
    )

-- ---- the machine

abbrev pub machine_line : (groups : ℕ) → List ℕ
machine_line groups = codes "mem" ++ flat_map spaced (decimal groups ∷ [])

abbrev pub caps_line : Machine → List ℕ
caps_line m = codes "caps" ++ flat_map spaced (map decimal (amounts m.caps))

around : (a b n rest : List ℕ) → ((a ++ b) ++ n) ++ rest ≡ a ++ (b ++ (n ++ rest))
around a b n rest = simp append_assoc

pub machine_text : (m : Machine) (rest : List ℕ) → decl_text (decls.Machine m) ++ rest ≡ machine_line m.groups ++ (10 ∷ (caps_line m ++ (10 ∷ rest)))
unfolding decl_text numbers
machine_text m rest = around (machine_line m.groups) (codes "\ncaps" ++ flat_map spaced (map decimal (amounts m.caps))) (codes "\n") rest

-- memory of a machine that fits, with the greatest capacities, fits too
memory_fits : (m : Machine) → rule_of_machine m ≡ None → rule_of_machine (record { groups = m.groups; caps = GREATEST_CAPS }) ≡ None
memory_fits m fits = let some = (unbroken (not (nat_lt 0 m.groups && nat_le m.groups 16)) 6 _ fits).0 in rw some refl

memory_step : (m : Machine) → IsSmall m.groups → rule_of_machine m ≡ None → step 1 start (machine_line m.groups) ≡ Ok (in_place (numbered start 1) (Memory m.groups))
unfolding step at_start broken_rule
memory_step m small fits =
    let read : line_of (codes "mem" ++ flat_map spaced (decimal m.groups ∷ [])) ≡ Ok (forms.Memory m.groups) =
    by_parts (codes "mem") (decimal m.groups ∷ []) (ink_from (codes "mem") refl) (omega arith) (a_number m.groups [] small no_fields) ∙ memory_form m.groups small in
    rw (read, memory_fits m fits) refl

pub caps_fields : (m : Machine) → AreCapsInRange m.caps → AreFields (map decimal (amounts m.caps))
caps_fields m small = four_numbers m.caps.kernels m.caps.spaces m.caps.threads m.caps.mappings small.0 small.1 small.2 small.3

caps_step : (m : Machine) → AreCapsInRange m.caps → broken_rule nothing_declared (decls.Machine m) ≡ None
    → step 2 (in_place (numbered start 1) (Memory m.groups)) (caps_line m) ≡ Ok (at_body 2 (declared nothing_declared (decls.Machine m)) (decls.Machine m ∷ []))
unfolding step behind_memory
caps_step m small fits =
    let read : line_of (codes "caps" ++ flat_map spaced (map decimal (amounts m.caps))) ≡ Ok (forms.Capacities m.caps) =
    by_parts (codes "caps") (map decimal (amounts m.caps)) (ink_from (codes "caps") refl) (omega arith) (caps_fields m small) ∙ capacities_form m.caps small in
    rw read (declares 2 nothing_declared [] (decls.Machine m) fits)

machine_there : (m : Machine) → (declared nothing_declared (decls.Machine m)).machine ≡ Some m
unfolding declared
machine_there m = refl

first_rule : (m : Machine) → broken_rule nothing_declared (decls.Machine m) ≡ None → rule_of_machine m ≡ None
unfolding broken_rule
first_rule m fits = fits

-- the lines of a machine, in front of more
pub machine_goes : (m : Machine) (rest : List ℕ) → broken_rule nothing_declared (decls.Machine m) ≡ None → IsDeclInRange (decls.Machine m)
    → reads 1 start (lines (decl_text (decls.Machine m) ++ rest)) ≡ reads 3 (at_body 2 (declared nothing_declared (decls.Machine m)) (decls.Machine m ∷ [])) (lines rest)
machine_goes m rest fit small =
    let memory = machine_line m.groups in
    let caps = caps_line m in
    let memory_clean = line_clean (codes "mem") (decimal m.groups ∷ []) (ink_from (codes "mem") refl) (a_number m.groups [] small.0 no_fields) in
    let caps_clean = line_clean (codes "caps") (map decimal (amounts m.caps)) (ink_from (codes "caps") refl) (caps_fields m small.1) in
    let first = in_place (numbered start 1) (Memory m.groups) in
    let second = at_body 2 (declared nothing_declared (decls.Machine m)) (decls.Machine m ∷ []) in
    ap (λ (x : List ℕ). reads 1 start (lines x)) (machine_text m rest)
    ∙ ap (reads 1 start) (first_line memory (caps ++ (10 ∷ rest)) memory_clean)
    ∙ goes 1 start first memory (lines (caps ++ (10 ∷ rest))) (memory_step m small.0 (first_rule m fit))
    ∙ ap (reads 2 first) (first_line caps rest caps_clean)
    ∙ goes 2 first second caps (lines rest) (caps_step m small.1 fit)

behind_machine_reads : (m : Machine) (es : List Decl) → AllFit nothing_declared (decls.Machine m ∷ es) → AllByRecursion IsDeclInRange (decls.Machine m ∷ es) → 0 < length (after_declarations nothing_declared (decls.Machine m ∷ es)).kernels
    → reads 1 start (lines (scenario_text (decls.Machine m ∷ es))) ≡ Ok (decls.Machine m ∷ es)
behind_machine_reads m es fit small kernels =
    let body = body_goes 3 2 (declared nothing_declared (decls.Machine m)) m (decls.Machine m ∷ []) es (codes "end\n") (machine_there m) fit.1 small.1 in
    let last = at_body body.0 (after_declarations nothing_declared (decls.Machine m ∷ es)) (decls.Machine m ∷ es) in
    ap (λ (x : List ℕ). reads 1 start (lines x)) (append_assoc (decl_text (decls.Machine m)) (flat_map decl_text es) (codes "end\n"))
    ∙ machine_goes m (flat_map decl_text es ++ codes "end\n") fit.0 small.0
    ∙ body.1
    ∙ ap (reads (3 + length es) last) end_lines
    ∙ end_reads (3 + length es) body.0 (after_declarations nothing_declared (decls.Machine m ∷ es)) (decls.Machine m ∷ es) kernels

pub scenario_again : (ds : List Decl) → AllFit nothing_declared ds → AllByRecursion IsDeclInRange ds → 0 < length (after_declarations nothing_declared ds).kernels → scenario (scenario_text ds) ≡ Ok ds
unfolding scenario broken_rule
scenario_again [] fit small kernels = absurd (omega (arith, kernels))
scenario_again (decls.Machine m ∷ es) fit small kernels = behind_machine_reads m es fit small kernels
scenario_again (decls.Kernel n limits ∷ es) fit small kernels = let e = fit.0 in absurd cc
scenario_again (decls.Right kernel group read write ∷ es) fit small kernels = let e = fit.0 in absurd cc
scenario_again (decls.Space n kernel ∷ es) fit small kernels = let e = fit.0 in absurd cc
scenario_again (decls.Thread n space pc priority a0 a1 ∷ es) fit small kernels = let e = fit.0 in absurd cc
scenario_again (decls.Map space vpn frame flags receiver ∷ es) fit small kernels = let e = fit.0 in absurd (early (has_no_flag flags) 4 5 e)
  where
    early : (b : Bool) (one other : ℕ) → Some (if b then one else other) ≡ None → ⊥
    early true one other e = cc
    early false one other e = cc
scenario_again (decls.Word frame offset value ∷ es) fit small kernels = let e = fit.0 in absurd cc

-- A line that stands at the front is read.
use Rattle.std.proofs.Common.{◌≡◌, ℕ, List, ◌++◌, Option, Some, None, refl, sym, ap, ◌∙◌, append_assoc}
use Rattle.std.specs.Prelude.{codes}
use Rattle.std.specs.Fmt.{decimal}
use Rattle.std.proofs.lemmas.List.{append_cancel_left}
use Rattle.std.proofs.lemmas.Option.{same_Some}
use Rattle.cache_ident.specs.declared.idents.Ident.{Ident}
use Rattle.text_fields.specs.Reading.{after}
use Rattle.journal_text.specs.Lines.{field, decl_text}
use Rattle.journal_text.specs.Ranges.{IsSmall, IsIdentInRange, IsDeclInRange}
use Rattle.journal_text.proofs.FieldLaws.{after_again, four_parts, number_again, field_again, field_ends}
use Rattle.journal_text.proofs.LineLaws.{decl_again, five_parts}
use Rattle.quantum.specs.flat_state.specs.declared.events.Decl.{Decl}
use Rattle.board_ops.specs.declared.ops.Op.{Op}
use Rattle.board_ops.specs.declared.ops.Op.TheVariants.{Declare, Seal, LoadKernel, LoadSpace, LoadThread, LoadMapping, Unload, Lock, Unlock, Checkout, View, RunAhead, Commit, Leave, Complete, ConfirmFault, HealStep, Reserve}
use Rattle.drive_text.specs.declared.lines.Line.{Line}
use Rattle.drive_text.specs.declared.lines.Line.TheVariants.{Operation, Journal}
use Rattle.drive_text.specs.Lines.{ident_field, receiver_text, op_text, line_text}
use Rattle.drive_text.specs.Reading.{load_kernel_at, load_space_at, load_thread_at, load_row_at, load_at, loaded_at, step_at, declare_at, reserve_at, other_at, op_at, line_at}
use Rattle.drive_text.specs.Ranges.{IsOpInRange, IsReceiverInRange, IsInRange, BeginsWithNoLine}
use Rattle.drive_text.proofs.FieldLaws.{ended, ident_field_ends, ident_field_again, asked_again, call_again, pair_again, cpu_again, receiver_ends, receiver_again}

-- ---- the same text from the right, as it is read

two_parts : (a b rest : List ℕ) → (a ++ b) ++ rest ≡ a ++ (b ++ rest)
two_parts a b rest = append_assoc a b rest

three_parts : (a b c rest : List ℕ) → (a ++ b ++ c) ++ rest ≡ a ++ (b ++ (c ++ rest))
three_parts a b c rest = simp append_assoc

six_parts : (a b c d e f rest : List ℕ) → (a ++ b ++ c ++ d ++ e ++ f) ++ rest ≡ a ++ (b ++ (c ++ (d ++ (e ++ (f ++ rest)))))
six_parts a b c d e f rest = simp append_assoc

-- ---- loads

load_kernel_again : (cpu kernel : ℕ) (caller : Ident) (rest : List ℕ) → IsSmall cpu → IsIdentInRange caller → IsSmall kernel → load_kernel_at (field cpu ++ (ident_field caller ++ (field kernel ++ ended rest))) ≡ Some (LoadKernel cpu caller (record { 0 = kernel }))
unfolding load_kernel_at
load_kernel_again cpu kernel caller rest small called low =
    rw (asked_again cpu caller (field kernel ++ ended rest) small called (field_ends kernel (ended rest)), field_again kernel (ended rest) low refl) refl

load_space_again : (cpu space : ℕ) (caller : Ident) (rest : List ℕ) → IsSmall cpu → IsIdentInRange caller → IsSmall space → load_space_at (field cpu ++ (ident_field caller ++ (field space ++ ended rest))) ≡ Some (LoadSpace cpu caller (record { 0 = space }))
unfolding load_space_at
load_space_again cpu space caller rest small called low =
    rw (asked_again cpu caller (field space ++ ended rest) small called (field_ends space (ended rest)), field_again space (ended rest) low refl) refl

load_thread_again : (cpu thread : ℕ) (caller parent : Ident) (rest : List ℕ) → IsSmall cpu → IsIdentInRange caller → IsIdentInRange parent → IsSmall thread → load_thread_at (field cpu ++ (ident_field caller ++ (ident_field parent ++ (field thread ++ ended rest)))) ≡ Some (LoadThread cpu caller parent (record { 0 = thread }))
unfolding load_thread_at
load_thread_again cpu thread caller parent rest small called under low =
    let tail = field thread ++ ended rest in
    rw (asked_again cpu caller (ident_field parent ++ tail) small called (ident_field_ends parent tail), ident_field_again parent tail under (field_ends thread (ended rest)), field_again thread (ended rest) low refl) refl

load_row_again : (cpu vpn : ℕ) (caller parent : Ident) (receiver : Option Ident) (rest : List ℕ) → IsSmall cpu → IsIdentInRange caller → IsIdentInRange parent → IsSmall vpn → IsReceiverInRange receiver → load_row_at (field cpu ++ (ident_field caller ++ (ident_field parent ++ (field vpn ++ (receiver_text receiver ++ ended rest))))) ≡ Some (LoadMapping cpu caller parent (record { 0 = vpn }) receiver)
unfolding load_row_at
load_row_again cpu vpn caller parent receiver rest small called under low taken =
    let last = receiver_text receiver ++ ended rest in
    let tail = field vpn ++ last in
    rw (asked_again cpu caller (ident_field parent ++ tail) small called (ident_field_ends parent tail), ident_field_again parent tail under (field_ends vpn last), field_again vpn last low (receiver_ends receiver (ended rest)), receiver_again receiver rest taken) refl

-- ---- operations

declare_again : (d : Decl) (rest : List ℕ) → IsDeclInRange d → declare_at (decl_text d ++ ended rest) ≡ Some (Declare d)
unfolding declare_at
declare_again d rest small = rw (decl_again d rest small) refl

reserve_again : (n : ℕ) (rest : List ℕ) → IsOpInRange (Reserve n) → reserve_at (decimal n ++ ended rest) ≡ Some (Reserve n)
unfolding reserve_at
reserve_again n rest small = rw (number_again n (ended rest) small refl) refl

pub op_again : (op : Op) (rest : List ℕ) → IsOpInRange op → op_at (op_text op ++ ended rest) ≡ Some op
unfolding op_text op_at step_at loaded_at load_at other_at after
op_again (Declare d) rest small =
    ap op_at (two_parts (codes "declare ") (decl_text d) (ended rest)) ∙ declare_again d rest small
op_again Seal rest small = refl
op_again (LoadKernel cpu caller kernel) rest small =
    ap op_at (four_parts (codes "load kernel") (field cpu) (ident_field caller) (field kernel.0) (ended rest))
    ∙ rw (load_kernel_again cpu kernel.0 caller rest small.0 small.1 small.2) refl
op_again (LoadSpace cpu caller space) rest small =
    ap op_at (four_parts (codes "load space") (field cpu) (ident_field caller) (field space.0) (ended rest))
    ∙ rw (load_space_again cpu space.0 caller rest small.0 small.1 small.2) refl
op_again (LoadThread cpu caller parent thread) rest small =
    ap op_at (five_parts (codes "load thread") (field cpu) (ident_field caller) (ident_field parent) (field thread.0) (ended rest))
    ∙ rw (load_thread_again cpu thread.0 caller parent rest small.0 small.1 small.2 small.3) refl
op_again (LoadMapping cpu caller parent vpn receiver) rest small =
    ap op_at (six_parts (codes "load row") (field cpu) (ident_field caller) (ident_field parent) (field vpn.0) (receiver_text receiver) (ended rest))
    ∙ rw (load_row_again cpu vpn.0 caller parent receiver rest small.0 small.1 small.2 small.3 small.4) refl
op_again (Unload cpu caller ident) rest small =
    ap op_at (four_parts (codes "unload") (field cpu) (ident_field caller) (ident_field ident) (ended rest))
    ∙ rw (call_again cpu caller ident rest small.0 small.1 small.2) refl
op_again (Lock cpu caller ident) rest small =
    ap op_at (four_parts (codes "lock") (field cpu) (ident_field caller) (ident_field ident) (ended rest))
    ∙ rw (call_again cpu caller ident rest small.0 small.1 small.2) refl
op_again (Unlock cpu caller ident) rest small =
    ap op_at (four_parts (codes "unlock") (field cpu) (ident_field caller) (ident_field ident) (ended rest))
    ∙ rw (call_again cpu caller ident rest small.0 small.1 small.2) refl
op_again (Checkout cpu) rest small =
    ap op_at (two_parts (codes "checkout") (field cpu) (ended rest)) ∙ rw (cpu_again cpu rest small) refl
op_again (View cpu vpn) rest small =
    ap op_at (three_parts (codes "view") (field cpu) (field vpn.0) (ended rest)) ∙ rw (pair_again cpu vpn.0 rest small.0 small.1) refl
op_again (RunAhead cpu limit) rest small =
    ap op_at (three_parts (codes "ahead") (field cpu) (field limit) (ended rest)) ∙ rw (pair_again cpu limit rest small.0 small.1) refl
op_again (Commit cpu) rest small =
    ap op_at (two_parts (codes "commit") (field cpu) (ended rest)) ∙ rw (cpu_again cpu rest small) refl
op_again (Leave cpu) rest small =
    ap op_at (two_parts (codes "leave") (field cpu) (ended rest)) ∙ rw (cpu_again cpu rest small) refl
op_again (Complete cpu caller thread) rest small =
    ap op_at (four_parts (codes "complete") (field cpu) (ident_field caller) (ident_field thread) (ended rest))
    ∙ rw (call_again cpu caller thread rest small.0 small.1 small.2) refl
op_again (ConfirmFault cpu caller thread) rest small =
    ap op_at (four_parts (codes "confirm") (field cpu) (ident_field caller) (ident_field thread) (ended rest))
    ∙ rw (call_again cpu caller thread rest small.0 small.1 small.2) refl
op_again (HealStep cpu thread) rest small =
    ap op_at (three_parts (codes "heal") (field cpu) (field thread.0) (ended rest)) ∙ rw (pair_again cpu thread.0 rest small.0 small.1) refl
op_again (Reserve n) rest small =
    ap op_at (two_parts (codes "reserve ") (decimal n) (ended rest)) ∙ reserve_again n rest small

operation_first : (bytes : List ℕ) (op : Op) → op_at bytes ≡ Some op → line_at bytes ≡ Some (Operation op)
unfolding line_at
operation_first bytes op read = rw read refl

journal_again : (rest : List ℕ) → line_at (codes "journal" ++ ended rest) ≡ Some Journal
unfolding line_at op_at step_at loaded_at load_at other_at after
journal_again rest = refl

-- no other line stands at the front
pub line_again : (line : Line) (rest : List ℕ) → IsInRange line → line_at (line_text line ++ rest) ≡ Some line
unfolding line_text
line_again (Operation op) rest small =
    ap line_at (append_assoc (op_text op) (codes "\n") rest) ∙ operation_first (op_text op ++ ended rest) op (op_again op rest small)
line_again Journal rest small = journal_again rest

-- ---- what stands at the front

pub none_stands : (bytes : List ℕ) → line_at bytes ≡ None → BeginsWithNoLine bytes
none_stands bytes none line rest small is = let read : line_at bytes ≡ Some line = ap line_at is ∙ line_again line rest small in cc

pub same_line : (bytes rest : List ℕ) (read line : Line) → line_at bytes ≡ Some read → IsInRange line → bytes ≡ line_text line ++ rest → read ≡ line
same_line bytes rest read line found small is = same_Some read line (sym found ∙ ap line_at is ∙ line_again line rest small)

-- its line doesn't
pub other_stands : (bytes text : List ℕ) (read : Line) → line_at bytes ≡ Some read → text ≡ line_text read → after text bytes ≡ None → BeginsWithNoLine bytes
other_stands bytes text read found its none line rest small is =
    let same = same_line bytes rest read line found small is in
    let whole : bytes ≡ text ++ rest = is ∙ ap (λ (x : Line). line_text x ++ rest) (sym same) ∙ ap (λ (t : List ℕ). t ++ rest) (sym its) in
    let again : after text bytes ≡ Some rest = ap (after text) whole ∙ after_again text rest in
    cc

-- and what follows it is the rest
pub same_rest : (bytes found rest : List ℕ) (read line : Line) → line_at bytes ≡ Some read → bytes ≡ line_text read ++ found → IsInRange line → bytes ≡ line_text line ++ rest → found ≡ rest
same_rest bytes found rest read line is parts small whole =
    append_cancel_left (line_text read) found rest (sym parts ∙ whole ∙ ap (λ (x : Line). line_text x ++ rest) (sym (same_line bytes rest read line is small whole)))

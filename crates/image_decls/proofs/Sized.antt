-- The parts of an executable have addresses, and few of them together.
use Rattle.std.proofs.Common.{◌≡◌, ℕ, ◌*◌, ◌≤◌, Bool, true, false, not, ◌&&◌, cond, leb, List, [], ◌∷◌, ◌++◌, Option, Some, None, refl, sym, ap, ◌∙◌, subst}
use Rattle.std.specs.List.{sum_by, list_any, list_all, AllByRecursion}
use Rattle.std.proofs.lemmas.Bool.{and_parts, leb-true}
use Rattle.cache_ident.specs.declared.names.SpaceNo.{SpaceNo}
use Rattle.cache_ident.specs.declared.names.ThreadNo.{ThreadNo}
use Rattle.flat_state.specs.declared.events.Decl.{Decl}
use Rattle.flat_state.specs.declared.events.Decl.TheVariants as decls
use Rattle.elf_image.specs.declared.images.Part.{Part}
use Rattle.elf_image.specs.Elf.{Executable, executable, IsExecutable, LiesIn, broken_rule, is_static, lies_in, e_phoff, e_phnum, headers, are_sized, wants_loader, parts_of, are_loadable, allows_something}
use Rattle.image_decls.specs.Declarations.{HasAddresses, each, part_rows, part_words, declarations}

pub placed : (bytes : List ℕ) (parts : List Part) → AllByRecursion (LiesIn bytes) parts → AllByRecursion HasAddresses parts
placed bytes [] all = tt
placed bytes (p ∷ ps) all = (record { some = all.0.some; in_space = all.0.in_space }, placed bytes ps all.1)

pub unbroken : (b : Bool) (rule : ℕ) (later : Option ℕ) → cond b (Some rule) later ≡ None → (b ≡ false) × (later ≡ None)
unbroken true rule later e = absurd cc
unbroken false rule later e = (refl, e)

holds : (b : Bool) → not b ≡ false → b ≡ true
holds true e = refl
holds false e = absurd cc

loadable : (bytes : List ℕ) → broken_rule bytes ≡ None → are_loadable (parts_of (headers bytes)) ≡ true
unfolding broken_rule
loadable bytes e =
    let a = unbroken (not (is_static bytes)) 27 _ e in
    let b = unbroken (not (lies_in bytes (e_phoff bytes) (32 * e_phnum bytes) && are_sized bytes (headers bytes))) 28 _ a.1 in
    let c = unbroken (list_any wants_loader (headers bytes)) 29 _ b.1 in
    let d = unbroken (not (are_loadable (parts_of (headers bytes)))) 30 None c.1 in
    holds _ d.0

pub total : (bytes : List ℕ) (image : Executable) → IsExecutable bytes image → sum_by (λ part. part.size) image.parts ≤ 8388608
total bytes image is =
    let parts = parts_of (headers bytes) in
    let both = and_parts (list_all allows_something parts) (leb (sum_by (λ (part : Part). part.size) parts) 8388608) (loadable bytes is.whole) in
    let few : sum_by (λ (part : Part). part.size) parts ≤ 8388608 = leb-true _ _ both.1 in
    subst (λ (image : Executable). sum_by (λ (part : Part). part.size) image.parts ≤ 8388608) (sym is.says) few

pub whole : (bytes : List ℕ) (space : SpaceNo) (frame : ℕ) (thread : ThreadNo) (image : Executable) (none rows words all : List Decl) (entry : ℕ) → IsExecutable bytes image → none ≡ [] → rows ≡ none ++ each (part_rows space) frame image.parts → words ≡ rows ++ each (part_words bytes) frame image.parts → entry ≡ image.entry → all ≡ words ++ decls.Thread thread space entry 0 0 0 ∷ [] → all ≡ declarations bytes space frame thread (executable bytes)
unfolding declarations
whole bytes space frame thread image none rows words all entry is n r w e a =
    let made : all ≡ declarations bytes space frame thread image = rw (a, w, r, n, e) refl in
    made ∙ ap (λ (x : Executable). declarations bytes space frame thread x) is.says

-- Declarations that compare as equal are one.
use Rattle.std.proofs.Common.{◌≡◌, Bool, true, false, Option, Some, None, refl, sym, ap, ◌∙◌, arith}
use Rattle.std.specs.Prelude.{IsTrue, ◌↔◌, ◌&&◌, nat_eq}
use Rattle.std.proofs.lemmas.Bool.Decides.{nat_tests}
use Rattle.cache_ident.specs.declared.names.Frame.{Frame}
use Rattle.cache_ident.specs.declared.names.SpaceNo.{SpaceNo}
use Rattle.cache_ident.specs.declared.names.ThreadNo.{ThreadNo}
use Rattle.cache_ident.specs.declared.names.Vpn.{Vpn}
use Rattle.phys_groups.specs.declared.rows.Flags.{Flags}
use Rattle.phys_groups.specs.contracts.rows.FlagsPartialEq.TheImpl as flags_equality
use Rattle.flat_machine.specs.flat_state.specs.declared.events.Decl.{Decl}
use Rattle.flat_machine.specs.flat_state.specs.declared.events.Decl.TheVariants.{Machine, Kernel, Right, Space, Thread, Map, Word}
use Rattle.flat_machine.specs.flat_state.specs.contracts.events.DeclPartialEq.TheImpl as decl_equality
use Rattle.run_journal.specs.declared.entries.Entry.{Entry}
use Rattle.run_journal.specs.declared.entries.Entry.TheVariants.{Declared}

abbrev pub decl_eq : Decl → Decl → Bool
decl_eq = (decl_equality.ghosts).eq

abbrev flags_eq : Flags → Flags → Bool
flags_eq = (flags_equality.ghosts).eq

same_flags : (a b : Flags) → flags_eq a b ≡ true → a ≡ b
same_flags a b e = grind (arith, nat_tests)

same_space : (a b : SpaceNo) → nat_eq a.0 b.0 ≡ true → a ≡ b
same_space a b e = grind (arith, nat_tests)

same_page : (a b : Vpn) → nat_eq a.0 b.0 ≡ true → a ≡ b
same_page a b e = grind (arith, nat_tests)

same_frame : (a b : Frame) → nat_eq a.0 b.0 ≡ true → a ≡ b
same_frame a b e = grind (arith, nat_tests)

same_thread : (a b : ThreadNo) → nat_eq a.0 b.0 ≡ true → a ≡ b
same_thread a b e = grind (arith, nat_tests)

five_parts : (a b c d x : Bool) → (a && (b && (c && (d && x)))) ≡ true → (a ≡ true) × (b ≡ true) × (c ≡ true) × (d ≡ true) × (x ≡ true)
five_parts true true true true true e = (refl, refl, refl, refl, refl)
five_parts true true true true false e = absurd cc
five_parts true true true false x e = absurd cc
five_parts true true false d x e = absurd cc
five_parts true false c d x e = absurd cc
five_parts false b c d x e = absurd cc

-- rows whose parts compare as equal, where their receivers are one if these compare as equal
same_row : (s t : SpaceNo) (v w : Vpn) (f h : Frame) (g i : Flags) (r q : Option ThreadNo) (x : Bool) → (x ≡ true → r ≡ q)
    → (nat_eq s.0 t.0 && (nat_eq v.0 w.0 && (nat_eq f.0 h.0 && (flags_eq g i && x)))) ≡ true → Map s v f g r ≡ Map t w h i q
same_row s t v w f h g i r q x receivers e =
    let p = five_parts (nat_eq s.0 t.0) (nat_eq v.0 w.0) (nat_eq f.0 h.0) (flags_eq g i) x e in
    ap (λ (y : SpaceNo). Map y v f g r) (same_space s t p.0)
    ∙ ap (λ (y : Vpn). Map t y f g r) (same_page v w p.1)
    ∙ ap (λ (y : Frame). Map t w y g r) (same_frame f h p.2)
    ∙ ap (λ (y : Flags). Map t w h y r) (same_flags g i p.3)
    ∙ ap (λ (y : Option ThreadNo). Map t w h i y) (receivers p.4)

false_true : {P : Type 0} → false ≡ true → P
false_true e = absurd cc

same_decl : (a b : Decl) → decl_eq a b ≡ true → a ≡ b
same_decl (Machine m) (Machine n) e = grind (arith, nat_tests)
same_decl (Kernel k l) (Kernel m n) e = grind (arith, nat_tests)
same_decl (Right k g r w) (Right l h s x) e = grind (arith, nat_tests)
same_decl (Space s k) (Space t l) e = grind (arith, nat_tests)
same_decl (Thread t s pc p a b) (Thread u v qc q c d) e = grind (arith, nat_tests)
same_decl (Map s v f g None) (Map t w h i None) e = same_row s t v w f h g i None None true (λ same. refl) e
same_decl (Map s v f g (Some r)) (Map t w h i (Some q)) e = same_row s t v w f h g i (Some r) (Some q) (nat_eq r.0 q.0) (λ same. ap (λ (y : ThreadNo). Some y) (same_thread r q same)) e
same_decl (Map s v f g None) (Map t w h i (Some q)) e = same_row s t v w f h g i None (Some q) false (λ same. false_true same) e
same_decl (Map s v f g (Some r)) (Map t w h i None) e = same_row s t v w f h g i (Some r) None false (λ same. false_true same) e
same_decl (Word f o v) (Word g p w) e = grind (arith, nat_tests)
same_decl a b e = absurd cc

itself : (d : Decl) → decl_eq d d ≡ true
itself (Machine m) = grind (arith, nat_tests)
itself (Kernel k l) = grind (arith, nat_tests)
itself (Right k g r w) = grind (arith, nat_tests)
itself (Space s k) = grind (arith, nat_tests)
itself (Thread t s pc p a b) = grind (arith, nat_tests)
itself (Map s v f g None) = grind (arith, nat_tests)
itself (Map s v f g (Some r)) = grind (arith, nat_tests)
itself (Word f o v) = grind (arith, nat_tests)

declared_is : (a b : Decl) → Some (Declared a) ≡ Some (Declared b) → a ≡ b
declared_is a b e = cc

-- an entry is that declaration exactly where its own compares as equal to it
pub declared_test : (a b : Decl) (here : Option Entry) (r : Bool) → here ≡ Some (Declared a) → r ≡ decl_eq a b → IsTrue r ↔ (here ≡ Some (Declared b))
declared_test a b here r is test = (
  (λ yes. is ∙ ap (λ (d : Decl). Some (Declared d)) (same_decl a b (sym test ∙ yes))),
  (λ same. test ∙ ap (λ (d : Decl). decl_eq a d) (sym (declared_is a b (sym is ∙ same))) ∙ itself a),
)

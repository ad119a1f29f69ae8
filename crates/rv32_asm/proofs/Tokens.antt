-- A line of a mnemonic and operands is read as these.
use Rattle.std.proofs.Common.{◌≡◌, ℕ, Bool, true, false, not, ◌&&◌, eqb, List, [], ◌∷◌, ◌++◌, Option, Some, None, refl, sym, ap, subst, ◌∙◌, append_assoc, eq-eqb}
use Rattle.std.specs.Prelude.{reverse, codes}
use Rattle.std.proofs.lemmas.Bool.{and_parts}
use Rattle.std.proofs.lemmas.List.{reverse-append}
use Rattle.rv32_asm.specs.Fields.{cut, trim_front, trim_back, trim}
use Rattle.rv32_asm.specs.Line.{Statement, label_of, code_of, name_and_rest, operation, pair, triple}
use Rattle.rv32_asm.specs.Listing.{of_two_text, of_three_text}
use Rattle.rv32_asm.proofs.Lines.{cut_cons}

-- none of the bytes is this one
abbrev pub lacks : ℕ → List ℕ → Bool
lacks at [] = true
lacks at (b ∷ bytes) = not (eqb b at) && lacks at bytes

not_true : (b : Bool) → not b ≡ true → b ≡ false
not_true true e = absurd cc
not_true false e = refl

pub lacks_parts : (at b : ℕ) (bytes : List ℕ) → lacks at (b ∷ bytes) ≡ true → (eqb b at ≡ false) × (lacks at bytes ≡ true)
lacks_parts at b bytes e = let p = and_parts (not (eqb b at)) (lacks at bytes) e in (not_true (eqb b at) p.0, p.1)

pub lacks_append : (at : ℕ) (xs ys : List ℕ) → lacks at xs ≡ true → lacks at ys ≡ true → lacks at (xs ++ ys) ≡ true
lacks_append at [] ys h k = k
lacks_append at (x ∷ xs) ys h k =
    let p = lacks_parts at x xs h in
    rw (p.0, lacks_append at xs ys p.1 k) refl

pub cut_nil : (at : ℕ) → cut at [] ≡ None
unfolding cut
cut_nil at = refl

pub cut_found : (at : ℕ) (xs ys : List ℕ) → lacks at xs ≡ true → cut at (xs ++ (at ∷ ys)) ≡ Some (xs, ys)
cut_found at [] ys h = cut_cons at at ys ∙ rw (eq-eqb at at refl) refl
cut_found at (x ∷ xs) ys h =
    let p = lacks_parts at x xs h in
    cut_cons at x (xs ++ (at ∷ ys)) ∙ rw (p.0, cut_found at xs ys p.1) refl

pub cut_none : (at : ℕ) (xs : List ℕ) → lacks at xs ≡ true → cut at xs ≡ None
cut_none at [] h = cut_nil at
cut_none at (x ∷ xs) h =
    let p = lacks_parts at x xs h in
    cut_cons at x xs ∙ rw (p.0, cut_none at xs p.1) refl

-- ---- no space at either end

pub record IsTight (t : List ℕ) : Type 0 where
  pub first : ℕ
  pub rest : List ℕ
  pub begins : t ≡ first ∷ rest
  pub first_stays : eqb first 32 ≡ false
  pub front : List ℕ
  pub last : ℕ
  pub ends : t ≡ front ++ (last ∷ [])
  pub last_stays : eqb last 32 ≡ false

front_stays : (b : ℕ) (bytes : List ℕ) → eqb b 32 ≡ false → trim_front (b ∷ bytes) ≡ b ∷ bytes
unfolding trim_front
front_stays b bytes e = rw e refl

reverse_cons : (x : ℕ) (xs : List ℕ) → reverse (x ∷ xs) ≡ reverse xs ++ (x ∷ [])
reverse_cons x xs = reverse-append (x ∷ []) xs

twice : (xs : List ℕ) → reverse (reverse xs) ≡ xs
twice [] = refl
twice (x ∷ xs) = ap reverse (reverse_cons x xs) ∙ reverse-append (reverse xs) (x ∷ []) ∙ ap (λ (t : List ℕ). x ∷ t) (twice xs)

back_stays : (front : List ℕ) (b : ℕ) → eqb b 32 ≡ false → trim_back (front ++ (b ∷ [])) ≡ front ++ (b ∷ [])
back_stays front b e =
    let turned : reverse (front ++ (b ∷ [])) ≡ b ∷ reverse front = reverse-append front (b ∷ []) in
    ap (λ (t : List ℕ). reverse (trim_front t)) turned ∙ ap reverse (front_stays b (reverse front) e) ∙ ap reverse (sym turned) ∙ twice (front ++ (b ∷ []))

pub trim_tight : (t : List ℕ) → IsTight t → trim t ≡ t
trim_tight t tight =
    let front : trim_front t ≡ t = ap trim_front tight.begins ∙ front_stays tight.first tight.rest tight.first_stays ∙ sym tight.begins in
    let back : trim_back t ≡ t = ap trim_back tight.ends ∙ back_stays tight.front tight.last tight.last_stays ∙ sym tight.ends in
    ap trim_back front ∙ back

space_goes : (bytes : List ℕ) → trim_front (32 ∷ bytes) ≡ trim_front bytes
unfolding trim_front
space_goes bytes = refl

pub trim_spaced : (t : List ℕ) → IsTight t → trim (32 ∷ t) ≡ t
trim_spaced t tight = ap trim_back (space_goes t) ∙ trim_tight t tight

pub tight_join : (a between c : List ℕ) → IsTight a → IsTight c → IsTight (a ++ (between ++ c))
tight_join a between c p q = record {
  first = p.first;
  rest = p.rest ++ (between ++ c);
  begins = ap (λ (t : List ℕ). t ++ (between ++ c)) p.begins;
  first_stays = p.first_stays;
  front = a ++ (between ++ q.front);
  last = q.last;
  ends = ap (λ (t : List ℕ). a ++ (between ++ t)) q.ends ∙ ap (λ (t : List ℕ). a ++ t) (sym (append_assoc between q.front (q.last ∷ []))) ∙ sym (append_assoc a (between ++ q.front) (q.last ∷ []));
  last_stays = q.last_stays;
}

tight_of : (b : ℕ) (bytes : List ℕ) → lacks 32 (b ∷ bytes) ≡ true → IsTight (b ∷ bytes)
tight_of b [] h =
    let p = lacks_parts 32 b [] h in
    record { first = b; rest = []; begins = refl; first_stays = p.0; front = []; last = b; ends = refl; last_stays = p.0 }
tight_of b (c ∷ bytes) h =
    let p = lacks_parts 32 b (c ∷ bytes) h in
    let more = tight_of c bytes p.1 in
    record { first = b; rest = c ∷ bytes; begins = refl; first_stays = p.0; front = b ∷ more.front; last = more.last; ends = ap (λ (t : List ℕ). b ∷ t) more.ends; last_stays = more.last_stays }

-- ---- a mnemonic or an operand

pub record IsToken (t : List ℕ) : Type 0 where
  pub first : ℕ
  pub rest : List ℕ
  pub begins : t ≡ first ∷ rest
  pub spaces : lacks 32 t ≡ true
  pub commas : lacks 44 t ≡ true
  pub colons : lacks 58 t ≡ true
  pub feeds : lacks 10 t ≡ true

pub token_tight : (t : List ℕ) → IsToken t → IsTight t
token_tight t k = subst IsTight (sym k.begins) (tight_of k.first k.rest (subst (λ (x : List ℕ). lacks 32 x ≡ true) k.begins k.spaces))

pub label_none : (bytes : List ℕ) → trim bytes ≡ bytes → cut 58 bytes ≡ None → label_of bytes ≡ None
unfolding label_of
label_none bytes t c = rw (t, c) refl

abbrev parted : List ℕ → List ℕ → Option (List ℕ × List ℕ)
parted front rest = Some (front, rest)

pub code_named : (bytes name rest : List ℕ) → trim bytes ≡ bytes → cut 32 bytes ≡ parted name rest → trim rest ≡ rest → code_of bytes ≡ operation name rest
unfolding code_of name_and_rest
code_named bytes name rest t c r = rw (t, c, r) refl

operation_two : (name rest a more b : List ℕ) → cut 44 rest ≡ parted a more → cut 44 more ≡ None → trim a ≡ a → trim more ≡ b → operation name rest ≡ pair name a b
unfolding operation
operation_two name rest a more b c d ta tb = rw (c, d, ta, tb) refl

operation_three : (name rest a more b0 c0 b c : List ℕ) → cut 44 rest ≡ parted a more → cut 44 more ≡ parted b0 c0 → trim a ≡ a → trim b0 ≡ b → trim c0 ≡ c → operation name rest ≡ triple name a b c
unfolding operation
operation_three name rest a more b0 c0 b c d e ta tb tc = rw (d, e, ta, tb, tc) refl

abbrev pub Reads : List ℕ → Option Statement → Type 0
Reads text statement = (label_of text ≡ None) × (code_of text ≡ statement) × (lacks 10 text ≡ true)

pub reads_two : (name a b : List ℕ) → IsToken name → IsToken a → IsToken b → Reads (of_two_text name a b) (pair name a b)
unfolding of_two_text
reads_two name a b n p q =
    let rest = a ++ (codes ", " ++ b) in
    let text = name ++ (codes " " ++ rest) in
    let tight_rest : IsTight rest = tight_join a (codes ", ") b (token_tight a p) (token_tight b q) in
    let tight_text : IsTight text = tight_join name (codes " ") rest (token_tight name n) tight_rest in
    let colons : lacks 58 text ≡ true = lacks_append 58 name (codes " " ++ rest) n.colons (lacks_append 58 (codes " ") rest refl (lacks_append 58 a (codes ", " ++ b) p.colons (lacks_append 58 (codes ", ") b refl q.colons))) in
    let commas : lacks 44 (32 ∷ b) ≡ true = lacks_append 44 (codes " ") b refl q.commas in
    let named = code_named text name rest (trim_tight text tight_text) (cut_found 32 name rest n.spaces) (trim_tight rest tight_rest) in
    let read = operation_two name rest a (32 ∷ b) b (cut_found 44 a (32 ∷ b) p.commas) (cut_none 44 (32 ∷ b) commas) (trim_tight a (token_tight a p)) (trim_spaced b (token_tight b q)) in
    let feeds : lacks 10 text ≡ true = lacks_append 10 name (codes " " ++ rest) n.feeds (lacks_append 10 (codes " ") rest refl (lacks_append 10 a (codes ", " ++ b) p.feeds (lacks_append 10 (codes ", ") b refl q.feeds))) in
    (label_none text (trim_tight text tight_text) (cut_none 58 text colons), named ∙ read, feeds)

pub reads_three : (name a b c : List ℕ) → IsToken name → IsToken a → IsToken b → IsToken c → Reads (of_three_text name a b c) (triple name a b c)
unfolding of_three_text
reads_three name a b c n p q r =
    let last = b ++ (codes ", " ++ c) in
    let rest = a ++ (codes ", " ++ last) in
    let text = name ++ (codes " " ++ rest) in
    let tight_last : IsTight last = tight_join b (codes ", ") c (token_tight b q) (token_tight c r) in
    let tight_rest : IsTight rest = tight_join a (codes ", ") last (token_tight a p) tight_last in
    let tight_text : IsTight text = tight_join name (codes " ") rest (token_tight name n) tight_rest in
    let colons_last : lacks 58 last ≡ true = lacks_append 58 b (codes ", " ++ c) q.colons (lacks_append 58 (codes ", ") c refl r.colons) in
    let colons : lacks 58 text ≡ true = lacks_append 58 name (codes " " ++ rest) n.colons (lacks_append 58 (codes " ") rest refl (lacks_append 58 a (codes ", " ++ last) p.colons (lacks_append 58 (codes ", ") last refl colons_last))) in
    let commas : lacks 44 (32 ∷ b) ≡ true = lacks_append 44 (codes " ") b refl q.commas in
    let named = code_named text name rest (trim_tight text tight_text) (cut_found 32 name rest n.spaces) (trim_tight rest tight_rest) in
    let read = operation_three name rest a (32 ∷ last) (32 ∷ b) (32 ∷ c) b c (cut_found 44 a (32 ∷ last) p.commas) (cut_found 44 (32 ∷ b) (32 ∷ c) commas) (trim_tight a (token_tight a p)) (trim_spaced b (token_tight b q)) (trim_spaced c (token_tight c r)) in
    let feeds_last : lacks 10 last ≡ true = lacks_append 10 b (codes ", " ++ c) q.feeds (lacks_append 10 (codes ", ") c refl r.feeds) in
    let feeds : lacks 10 text ≡ true = lacks_append 10 name (codes " " ++ rest) n.feeds (lacks_append 10 (codes " ") rest refl (lacks_append 10 a (codes ", " ++ last) p.feeds (lacks_append 10 (codes ", ") last refl feeds_last))) in
    (label_none text (trim_tight text tight_text) (cut_none 58 text colons), named ∙ read, feeds)

pub reads_along : (text : List ℕ) (o p : Option Statement) → Reads text o → o ≡ p → Reads text p
reads_along text o p r e = (r.0, r.1 ∙ e, r.2)

pub name_token : (b : ℕ) (bytes : List ℕ) → lacks 32 (b ∷ bytes) ≡ true → lacks 44 (b ∷ bytes) ≡ true → lacks 58 (b ∷ bytes) ≡ true → lacks 10 (b ∷ bytes) ≡ true → IsToken (b ∷ bytes)
name_token b bytes spaces commas colons feeds = record { first = b; rest = bytes; begins = refl; spaces = spaces; commas = commas; colons = colons; feeds = feeds }

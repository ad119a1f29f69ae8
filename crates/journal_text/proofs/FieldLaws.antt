-- A field that stands at the front is read.
use Rattle.std.proofs.Common.{◌≡◌, ℕ, zero, suc, ◌+◌, ◌-◌, ◌*◌, ◌/◌, ◌%◌, ◌^◌, ◌<◌, ◌≤◌, Bool, true, false, ◌&&◌, eqb, leb, ltb, List, [], ◌∷◌, ◌++◌, length, take, drop, Option, Some, None, refl, sym, ap, ◌∙◌, append_assoc, arith}
use Rattle.std.specs.Prelude.{codes}
use Rattle.std.specs.Str.{bytes_eq}
use Rattle.std.specs.Fmt.{decimal}
use Rattle.std.specs.Int.{w32, to_be_bytes, byte_at, bytes_high_first}
use Rattle.std.proofs.lemmas.Bool.{le-leb, lt-ltb, ne_eqb, le-ltb}
use Rattle.std.proofs.lemmas.List.{take-append-drop, take_at, drop_at, length-append}
use Rattle.std.proofs.lemmas.Option.{cond_some}
use Rattle.std.proofs.lemmas.Nat.{from_be_bytes-to_be_bytes_4}
use Rattle.std.proofs.lemmas.Slice.Eq.{bytes_eq-Decides}
use Rattle.std.proofs.lemmas.Fmt.{decimal_by_steps}
use Rattle.hex.specs.Hex.{IsBytes, encode_lower}
use Rattle.hex.proofs.HexLemmas.{decode_sized-encode_lower, length-encode_with}
use Rattle.hex.specs.Hex.{lower_digits}
use Rattle.cache_ident.specs.declared.idents.Cause.{Cause}
use Rattle.cache_ident.specs.declared.idents.Cause.TheVariants as causes
use Rattle.cache_ident.specs.declared.idents.Ident.{Ident}
use Rattle.cache_ident.specs.declared.idents.Kind.{Kind}
use Rattle.cache_ident.specs.declared.idents.Kind.TheVariants as kinds
use Rattle.cache_ident.specs.declared.names.Caps.{Caps}
use Rattle.cache_ident.specs.declared.names.Name.{Name}
use Rattle.cache_ident.specs.declared.names.Name.TheVariants as names
use Rattle.cache_ident.specs.declared.names.ThreadNo.{ThreadNo}
use Rattle.cache_ident.specs.Idents.{letter_of, ident_text, cause_text}
use Rattle.cache_ident.specs.Names.{name_text}
use Rattle.phys_groups.specs.declared.rows.Flags.{Flags}
use Rattle.text_fields.specs.Numbers.{word_text}
use Rattle.journal_text.specs.Lines.{field, caps_text, rights_text, flags_text, receiver_text, cpu_text}
use Rattle.text_fields.specs.Reading.{after}
use Rattle.journal_text.specs.Reading.{number_from, small_at, field_at, caps_at, rights_at, flags_at, receiver_at, word_at, kind_at, ident_at, mapping_at, name_at, cause_at, cpu_at}
use Rattle.journal_text.specs.Ranges.{IsSmall, AreCapsInRange, IsNameInRange, IsIdentInRange, IsReceiverInRange}

-- ---- a fixed text

pub after_again : (text rest : List ℕ) → after text (text ++ rest) ≡ Some rest
unfolding after
after_again text rest =
    let same : bytes_eq text text ≡ true = (bytes_eq-Decides text text).1 refl in
    rw (take_at text rest (length text) refl, same, drop_at text rest (length text) refl) refl

pub after_takes : (text bytes rest : List ℕ) → after text bytes ≡ Some rest → bytes ≡ text ++ rest
unfolding after
after_takes text bytes rest e =
    let g = cond_some (bytes_eq (take (length text) bytes) text) (drop (length text) bytes) rest e in
    let same : take (length text) bytes ≡ text = (bytes_eq-Decides (take (length text) bytes) text).0 g.0 in
    sym (take-append-drop (length text) bytes) ∙ ap (λ (x : List ℕ). x ++ drop (length text) bytes) same ∙ ap (λ (x : List ℕ). text ++ x) g.1

-- another text stands there
pub after_other : (text bytes : List ℕ) → bytes_eq (take (length text) bytes) text ≡ false → after text bytes ≡ None
unfolding after
after_other text bytes other = rw other refl

-- ---- numbers

abbrev is_digit : ℕ → Bool
is_digit b = leb 48 b && leb b 57

-- no digit follows
abbrev pub EndsNumber : List ℕ → Type 0
EndsNumber [] = Unit {0}
EndsNumber (b ∷ rest) = is_digit b ≡ false

number_from-end : (n : ℕ) (rest : List ℕ) → EndsNumber rest → number_from n rest ≡ Some (n, rest)
unfolding number_from
number_from-end n [] ends = refl
number_from-end n (b ∷ rest) ends = rw ends refl

number_from-digit : (n d : ℕ) (rest : List ℕ) → d < 10 → 10 * n + d < 2 ^ 64 → number_from n ((48 + d) ∷ rest) ≡ number_from (10 * n + d) rest
unfolding number_from
number_from-digit n d rest lt small =
    let low : leb 48 (48 + d) ≡ true = le-leb _ _ (omega arith) in
    let high : leb (48 + d) 57 ≡ true = le-leb _ _ (omega arith) in
    let value : 48 + d - 48 ≡ d = omega arith in
    let fits : ltb (10 * n + d) (2 ^ 64) ≡ true = lt-ltb _ _ small in
    rw (low, high, value, fits) refl

abbrev IsRead : ℕ → List ℕ → Type 0
IsRead n ds = (rest : List ℕ) → n < 2 ^ 64 → number_from 0 (ds ++ rest) ≡ number_from n rest

one_digit : (n : ℕ) → n < 10 → IsRead n ((48 + n) ∷ [])
one_digit n lt rest small =
    let value : 10 * 0 + n ≡ n = omega arith in
    number_from-digit 0 n rest lt (omega arith) ∙ ap (λ (m : ℕ). number_from m rest) value

one_more : (n : ℕ) (ds : List ℕ) → 10 ≤ n → IsRead (n / 10) ds → IsRead n (ds ++ ((48 + n % 10) ∷ []))
one_more n ds ge front rest small =
    let whole : 10 * (n / 10) + n % 10 ≡ n = omega arith in
    let last = number_from-digit (n / 10) (n % 10) rest (omega arith) (omega arith) in
    ap (number_from 0) (append_assoc ds ((48 + n % 10) ∷ []) rest) ∙ front ((48 + n % 10) ∷ rest) (omega arith) ∙ last ∙ ap (λ (m : ℕ). number_from m rest) whole

pub number_again : (n : ℕ) (rest : List ℕ) → n < 2 ^ 64 → EndsNumber rest → number_from 0 (decimal n ++ rest) ≡ Some (n, rest)
number_again n rest small ends = decimal_by_steps IsRead one_digit one_more n small rest small ∙ number_from-end n rest ends

pub small_again : (n : ℕ) (rest : List ℕ) → IsSmall n → EndsNumber rest → small_at (decimal n ++ rest) ≡ Some (n, rest)
unfolding small_at
small_again n rest small ends =
    let fits : ltb n (2 ^ 32) ≡ true = lt-ltb _ _ small in
    rw (number_again n rest (omega arith) ends, fits) refl

pub field_again : (n : ℕ) (rest : List ℕ) → IsSmall n → EndsNumber rest → field_at (field n ++ rest) ≡ Some (n, rest)
unfolding field_at field
field_again n rest small ends = rw (after_again (codes " ") (decimal n ++ rest), small_again n rest small ends) refl

pub field_ends : (n : ℕ) (rest : List ℕ) → EndsNumber (field n ++ rest)
unfolding field
field_ends n rest = refl

pub caps_ends : (caps : Caps) (rest : List ℕ) → EndsNumber (caps_text caps ++ rest)
unfolding caps_text field
caps_ends caps rest = refl

pub four_parts : (a b c d rest : List ℕ) → (a ++ b ++ c ++ d) ++ rest ≡ a ++ (b ++ (c ++ (d ++ rest)))
four_parts a b c d rest = simp append_assoc

pub caps_again : (caps : Caps) (rest : List ℕ) → AreCapsInRange caps → EndsNumber rest → caps_at (caps_text caps ++ rest) ≡ Some (caps, rest)
unfolding caps_at caps_text
caps_again caps rest small ends =
    let m = field caps.mappings ++ rest in
    let t = field caps.threads ++ m in
    let s = field caps.spaces ++ t in
    ap caps_at (four_parts (field caps.kernels) (field caps.spaces) (field caps.threads) (field caps.mappings) rest)
    ∙ rw (field_again caps.kernels s small.0 (field_ends caps.spaces t), field_again caps.spaces t small.1 (field_ends caps.threads m), field_again caps.threads m small.2 (field_ends caps.mappings rest), field_again caps.mappings rest small.3 ends) refl

-- a number begins with a digit
pub record BeginsWithDigit (n : ℕ) (ds : List ℕ) : Type 0 where
  pub digit : ℕ
  pub more : List ℕ
  pub are : ds ≡ digit ∷ more
  pub low : 48 ≤ digit

digit_first : (n : ℕ) → n < 10 → BeginsWithDigit n ((48 + n) ∷ [])
digit_first n lt = record { digit = 48 + n; more = []; are = refl; low = omega arith }

digits_first : (n : ℕ) (ds : List ℕ) → 10 ≤ n → BeginsWithDigit (n / 10) ds → BeginsWithDigit n (ds ++ ((48 + n % 10) ∷ []))
digits_first n ds ge front = record { digit = front.digit; more = front.more ++ ((48 + n % 10) ∷ []); are = ap (λ (x : List ℕ). x ++ ((48 + n % 10) ∷ [])) front.are; low = front.low }

-- ---- letters

pub rights_again : (read write : Bool) (rest : List ℕ) → rights_at (codes " " ++ (rights_text read write ++ (10 ∷ rest))) ≡ Some (read, write)
unfolding rights_at
rights_again true true rest = rw (after_again (codes " ") (114 ∷ 119 ∷ 10 ∷ rest)) refl
rights_again true false rest = rw (after_again (codes " ") (114 ∷ 10 ∷ rest)) refl
rights_again false true rest = rw (after_again (codes " ") (119 ∷ 10 ∷ rest)) refl
rights_again false false rest = rw (after_again (codes " ") (45 ∷ 10 ∷ rest)) refl

flags_again_at : (r w x m : Bool) (rest : List ℕ) → flags_at (codes " " ++ (flags_text (record { r = r; w = w; x = x; m = m }) ++ (32 ∷ rest))) ≡ Some (record { r = r; w = w; x = x; m = m }, 32 ∷ rest)
unfolding flags_at
flags_again_at true true true true rest = rw (after_again (codes " ") (codes "rwxm" ++ (32 ∷ rest))) refl
flags_again_at true true true false rest = rw (after_again (codes " ") (codes "rwx" ++ (32 ∷ rest))) refl
flags_again_at true true false true rest = rw (after_again (codes " ") (codes "rwm" ++ (32 ∷ rest))) refl
flags_again_at true true false false rest = rw (after_again (codes " ") (codes "rw" ++ (32 ∷ rest))) refl
flags_again_at true false true true rest = rw (after_again (codes " ") (codes "rxm" ++ (32 ∷ rest))) refl
flags_again_at true false true false rest = rw (after_again (codes " ") (codes "rx" ++ (32 ∷ rest))) refl
flags_again_at true false false true rest = rw (after_again (codes " ") (codes "rm" ++ (32 ∷ rest))) refl
flags_again_at true false false false rest = rw (after_again (codes " ") (codes "r" ++ (32 ∷ rest))) refl
flags_again_at false true true true rest = rw (after_again (codes " ") (codes "wxm" ++ (32 ∷ rest))) refl
flags_again_at false true true false rest = rw (after_again (codes " ") (codes "wx" ++ (32 ∷ rest))) refl
flags_again_at false true false true rest = rw (after_again (codes " ") (codes "wm" ++ (32 ∷ rest))) refl
flags_again_at false true false false rest = rw (after_again (codes " ") (codes "w" ++ (32 ∷ rest))) refl
flags_again_at false false true true rest = rw (after_again (codes " ") (codes "xm" ++ (32 ∷ rest))) refl
flags_again_at false false true false rest = rw (after_again (codes " ") (codes "x" ++ (32 ∷ rest))) refl
flags_again_at false false false true rest = rw (after_again (codes " ") (codes "m" ++ (32 ∷ rest))) refl
flags_again_at false false false false rest = rw (after_again (codes " ") (codes "-" ++ (32 ∷ rest))) refl

pub flags_again : (f : Flags) (rest : List ℕ) → flags_at (codes " " ++ (flags_text f ++ (32 ∷ rest))) ≡ Some (f, 32 ∷ rest)
flags_again f rest = flags_again_at f.r f.w f.x f.m rest

-- what a receiver's text has behind its space
pub receiver_tail : Option ThreadNo → List ℕ
receiver_tail None = codes "-"
receiver_tail (Some thread) = decimal thread.0

pub receiver_spaced : (o : Option ThreadNo) → receiver_text o ≡ codes " " ++ receiver_tail o
unfolding receiver_tail field
receiver_spaced None = refl
receiver_spaced (Some thread) = refl

no_dash : (n : ℕ) (rest : List ℕ) → IsSmall n → after (codes " -") (field n ++ rest) ≡ None
unfolding field
no_dash n rest small =
    let front = decimal_by_steps BeginsWithDigit digit_first digits_first n (omega arith) in
    let differs : eqb front.digit 45 ≡ false = ne_eqb _ _ (λ same. let low = front.low in omega arith) in
    ap (λ (ds : List ℕ). after (codes " -") (codes " " ++ ds ++ rest)) front.are
    ∙ after_other (codes " -") (codes " " ++ (front.digit ∷ (front.more ++ rest))) (rw differs refl)

pub receiver_again : (o : Option ThreadNo) (rest : List ℕ) → IsReceiverInRange o → receiver_at (receiver_text o ++ (10 ∷ rest)) ≡ Some o
unfolding receiver_at
receiver_again None rest small = rw (after_again (codes " -") (10 ∷ rest)) refl
receiver_again (Some thread) rest small = rw (no_dash thread.0 (10 ∷ rest) small, field_again thread.0 (10 ∷ rest) small refl) refl

-- ---- words

byte_fits : (i n : ℕ) → byte_at i n < 256
byte_fits zero n = omega arith
byte_fits (suc i) n = omega arith

bytes_fit : (k n : ℕ) → IsBytes (bytes_high_first k n)
bytes_fit zero n i = omega arith
bytes_fit (suc k) n zero = byte_fits k n
bytes_fit (suc k) n (suc i) = bytes_fit k n i

pub word_again : (value : ℕ) (rest : List ℕ) → IsSmall value → word_at (codes " " ++ (word_text value ++ rest)) ≡ Some value
unfolding word_at word_text
word_again value rest small =
    let bytes = to_be_bytes w32 value in
    let digits = encode_lower bytes in
    let eight : length digits ≡ 8 = length-encode_with lower_digits bytes in
    let long : ltb (length (digits ++ rest)) 8 ≡ false = le-ltb _ _ (omega (arith, length-append digits rest, eight)) in
    rw (after_again (codes " ") (digits ++ rest), long, take_at digits rest 8 eight, decode_sized-encode_lower bytes 4 refl (bytes_fit 4 value)) (ap Some (from_be_bytes-to_be_bytes_4 value small))

-- ---- identifiers, names, causes, processors

kind_again : (kind : Kind) (rest : List ℕ) → kind_at (letter_of kind ∷ rest) ≡ Some (kind, rest)
unfolding kind_at
kind_again kinds.Kernel rest = refl
kind_again kinds.Space rest = refl
kind_again kinds.Thread rest = refl
kind_again kinds.Mapping rest = refl

pub ident_again : (ident : Ident) (rest : List ℕ) → IsIdentInRange ident → EndsNumber rest → ident_at (ident_text ident ++ rest) ≡ Some (ident, rest)
unfolding ident_at
ident_again ident rest small ends =
    let serial = decimal ident.serial ++ rest in
    let slot = decimal ident.slot ++ (codes "." ++ serial) in
    ap ident_at (four_parts (letter_of ident.kind ∷ []) (decimal ident.slot) (codes ".") (decimal ident.serial) rest)
    ∙ rw (kind_again ident.kind slot, small_again ident.slot (codes "." ++ serial) small.0 refl, after_again (codes ".") serial, number_again ident.serial rest small.1 ends) refl

mapping_again : (space vpn : ℕ) (rest : List ℕ) → IsSmall space → IsSmall vpn → EndsNumber rest → mapping_at (field space ++ (field vpn ++ rest)) ≡ Some (names.Mapping (record { 0 = space }) (record { 0 = vpn }), rest)
unfolding mapping_at
mapping_again space vpn rest small low ends = rw (field_again space (field vpn ++ rest) small (field_ends vpn rest), field_again vpn rest low ends) refl

row_regrouped : (a b c d rest : List ℕ) → (a ++ b ++ c ++ d) ++ rest ≡ a ++ (b ++ ((c ++ d) ++ rest))
row_regrouped a b c d rest = simp append_assoc

pub name_again : (name : Name) (rest : List ℕ) → IsNameInRange name → EndsNumber rest → name_at (codes " " ++ (name_text name ++ rest)) ≡ Some (name, rest)
unfolding name_at field
name_again (names.Kernel kernel) rest small ends = rw (after_again (codes " kernel") (field kernel.0 ++ rest), field_again kernel.0 rest small ends) refl
name_again (names.Space space) rest small ends =
    let x = field space.0 ++ rest in
    rw (after_other (codes " kernel") (codes " space" ++ x) refl, after_again (codes " space") x, field_again space.0 rest small ends) refl
name_again (names.Thread thread) rest small ends =
    let x = field thread.0 ++ rest in
    rw (after_other (codes " kernel") (codes " thread" ++ x) refl, after_other (codes " space") (codes " thread" ++ x) refl, after_again (codes " thread") x, field_again thread.0 rest small ends) refl
name_again (names.Mapping space vpn) rest small ends =
    let x = field space.0 ++ (field vpn.0 ++ rest) in
    ap (λ (t : List ℕ). name_at (codes " " ++ t)) (row_regrouped (codes "row ") (decimal space.0) (codes " ") (decimal vpn.0) rest)
    ∙ rw (after_other (codes " kernel") (codes " row" ++ x) refl, after_other (codes " space") (codes " row" ++ x) refl, after_other (codes " thread") (codes " row" ++ x) refl, after_again (codes " row") x) (mapping_again space.0 vpn.0 rest small.0 small.1 ends)

pub cause_again : (cause : Cause) (rest : List ℕ) → cause_at (codes " " ++ (cause_text cause ++ rest)) ≡ Some (cause, rest)
unfolding cause_at
cause_again causes.Displaced rest = rw (after_again (codes " displaced") rest) refl
cause_again causes.Dependent rest = rw (after_other (codes " displaced") (codes " dependent" ++ rest) refl, after_again (codes " dependent") rest) refl
cause_again causes.Unloaded rest = rw (after_other (codes " displaced") (codes " unloaded" ++ rest) refl, after_other (codes " dependent") (codes " unloaded" ++ rest) refl, after_again (codes " unloaded") rest) refl

pub cpu_again : (cpu : ℕ) (rest : List ℕ) → IsSmall cpu → EndsNumber rest → cpu_at (cpu_text cpu ++ rest) ≡ Some cpu
unfolding cpu_at cpu_text
cpu_again cpu rest small ends = rw (after_again (codes " cpu") (field cpu ++ rest), field_again cpu rest small ends) refl

pub cpu_ends : (cpu : ℕ) (rest : List ℕ) → EndsNumber (cpu_text cpu ++ rest)
unfolding cpu_text
cpu_ends cpu rest = refl

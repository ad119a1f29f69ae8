-- One step of a walk over the rows, which gathers the receivers of a frame.
use Rattle.std.proofs.Common.{◌≡◌, ℕ, ◌+◌, ◌<◌, ◌≤◌, Bool, true, false, List, [], ◌∷◌, ◌++◌, length, drop, get_or, Some, None, if◌then◌else◌, refl, arith, append_assoc, length-append, count_by}
use Rattle.std.proofs.lemmas.List.{append-nil, drop_all, drop_more}
use Rattle.std.proofs.lemmas.List.Sums.{length-filter}
use Rattle.std.proofs.lemmas.Bool.Decides.{nat_tests}
use Rattle.std.specs.Prelude.{◌&&◌, ◌==◌, filter, is_some, option_to_list}
use Rattle.std.specs.Option.{option_map}
use Rattle.cache_ident.specs.declared.names.Frame.{Frame}
use Rattle.cache_ident.specs.declared.names.ThreadNo.{ThreadNo}
use Rattle.cache_ident.specs.declared.names.Vpn.{Vpn}
use Rattle.phys_groups.specs.declared.rows.Row.{Row}
use Rattle.signal_pages.specs.Signals.{is_signal_row_of, receiver_of, receivers_in}

-- the receivers of the first i rows were found, and what is found and what may come are at most four
pub record IsWalked (frame : Frame) (rows : List Row) (fits : List Bool) (i : ℕ) (found : List (ThreadNo × Vpn)) : Type 0 where
  pub joined : found ++ receivers_in frame (drop i rows) (drop i fits) ≡ receivers_in frame rows fits
  pub few : length found + count_by (is_signal_row_of frame) (drop i rows) ≤ 4

-- a list with one more row in front, where the test holds
length_if : (b : Bool) (x : Row) (xs : List Row) → length (if b then x ∷ xs else xs) ≡ (if b then 1 else 0) + length xs
length_if true x xs = omega arith
length_if false x xs = omega arith

-- the count of a list from its first row
count_by-cons : (p : Row → Bool) (x : Row) (xs : List Row) → count_by p (x ∷ xs) ≡ (if p x then 1 else 0) + count_by p xs
count_by-cons p x xs = rw (← length-filter p (x ∷ xs), ← length-filter p xs) (length_if (p x) x (filter p xs))

-- a row that gives a receiver is a signal row of the frame
gives_if_signal : (frame : Frame) (row : Row) (fit : Bool) (r : ThreadNo × Vpn) → receiver_of frame row fit ≡ Some r → is_signal_row_of frame row ≡ true
gives_if_signal frame row fit r gives = elim row.receiver as (λ o. (if (row.frame.0 == frame.0) && fit then option_map (λ thread. (thread, row.vpn)) o else None) ≡ Some r → ((row.frame.0 == frame.0) && is_some o) ≡ true) [
  | None ↦ λ gives. grind (arith, nat_tests)
  | Some t ↦ λ gives. grind (arith, nat_tests)
] gives

module _ (frame : Frame) (rows : List Row) (fits : List Bool) (i : ℕ) (found : List (ThreadNo × Vpn)) (row : Row) (fit : Bool) (within : i < length rows) (told : length fits ≡ length rows) (walked : IsWalked frame rows fits i found) where
  -- what is to come, and the next row apart
  next_receivers : receivers_in frame (drop i rows) (drop i fits) ≡ option_to_list (receiver_of frame (get_or rows i row) (get_or fits i fit)) ++ receivers_in frame (drop (i + 1) rows) (drop (i + 1) fits)
  next_receivers = let told_too : i < length fits = omega arith in rw (drop_more rows i row within, drop_more fits i fit told_too) refl

  next_count : count_by (is_signal_row_of frame) (drop i rows) ≡ (if is_signal_row_of frame (get_or rows i row) then 1 else 0) + count_by (is_signal_row_of frame) (drop (i + 1) rows)
  next_count = rw (drop_more rows i row within) (count_by-cons (is_signal_row_of frame) (get_or rows i row) (drop (i + 1) rows))

  counted : (r : ThreadNo × Vpn) → receiver_of frame (get_or rows i row) (get_or fits i fit) ≡ Some r → count_by (is_signal_row_of frame) (drop i rows) ≡ 1 + count_by (is_signal_row_of frame) (drop (i + 1) rows)
  counted r gives = grind (arith, next_count, gives_if_signal frame (get_or rows i row) (get_or fits i fit) r gives)

  -- there is room for what the next row gives
  pub has_room : (r : ThreadNo × Vpn) → receiver_of frame (get_or rows i row) (get_or fits i fit) ≡ Some r → length found < 4
  has_room r gives = omega (arith, walked.few, counted r gives)

  -- the next row gives a receiver
  pub walks_with : (r : ThreadNo × Vpn) → receiver_of frame (get_or rows i row) (get_or fits i fit) ≡ Some r → IsWalked frame rows fits (i + 1) (found ++ r ∷ [])
  walks_with r gives = record {
    joined = rw (append_assoc, ← walked.joined, next_receivers, gives) refl;
    few = omega (arith, walked.few, counted r gives, length-append found (r ∷ []));
  }

  -- the next row gives none
  pub walks_past : receiver_of frame (get_or rows i row) (get_or fits i fit) ≡ None → IsWalked frame rows fits (i + 1) found
  walks_past gives = record {
    joined = rw (← walked.joined, next_receivers, gives) refl;
    few = omega (arith, walked.few, next_count);
  }

-- at the end all receivers were found
pub all_walked : (frame : Frame) (rows : List Row) (fits : List Bool) (i : ℕ) (found : List (ThreadNo × Vpn)) → length rows ≤ i → IsWalked frame rows fits i found → found ≡ receivers_in frame rows fits
all_walked frame rows fits i found past walked = rw (← walked.joined, drop_all i rows past, append-nil found) refl

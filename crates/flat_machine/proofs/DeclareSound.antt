-- A declaration that breaks no rule keeps what the program keeps, and what its rules say to the program.
use Rattle.std.proofs.Common.{◌≡◌, Result, Ok, Err, subst, ℕ, ◌+◌, ◌*◌, ◌%◌, ◌<◌, ◌≤◌, Bool, true, false, not, List, [], ◌∷◌, ◌++◌, length, set, Option, Some, None, slice_get, count_by, refl, ap, sym, ◌∙◌, arith}
use Rattle.std.specs.Prelude.{OnOk, OnErr, ◌==◌, ◌&&◌, ◌||◌, nat_lt, nat_le, is_some}
use Rattle.std.proofs.lemmas.Bool.{and_parts, or_parts, not-false, leb-true, leb-false, ltb-true, ltb-false, eqb-true}
use Rattle.std.proofs.lemmas.List.{length_push}
use Rattle.std.proofs.lemmas.List.Sums.{sum_by_push}
use Rattle.cache_ident.specs.declared.names.Caps.{Caps}
use Rattle.cache_ident.specs.declared.names.Frame.{Frame}
use Rattle.cache_ident.specs.declared.names.KernelNo.{KernelNo}
use Rattle.cache_ident.specs.declared.names.SpaceNo.{SpaceNo}
use Rattle.cache_ident.specs.declared.names.ThreadNo.{ThreadNo}
use Rattle.cache_ident.specs.declared.names.Vpn.{Vpn}
use Rattle.phys_groups.specs.declared.rows.Flags.{Flags}
use Rattle.phys_groups.specs.declared.rows.Row.{Row}
use Rattle.phys_groups.specs.Translation.{row_of}
use Rattle.flat_state.specs.signal_pages.specs.Signals.{is_signal_row_of}
use Rattle.flat_state.specs.declared.events.Decl.TheVariants as decls
use Rattle.flat_state.specs.declared.events.Machine.{Machine}
use Rattle.flat_state.specs.declared.records.FlatKernel.{FlatKernel}
use Rattle.flat_state.specs.State.{FlatState, groups_of}
use Rattle.flat_state.specs.Declaration.{agree, broken_rule, declared, has_four, has_frame, has_no_flag, has_receiver, is_receiver_in, locks_granted, new_kernel, with_right}
use Rattle.flat_state.proofs.Places.{sum_by-set_same}
use Rattle.flat_state.proofs.FormedParts.{breaks_none, other_rule, first_rule, machine_formed, kernel_formed, right_formed, space_formed, thread_declared_formed, row_formed, word_formed}
use Rattle.flat_machine.specs.Readings.{IsSound}

-- the state is well-formed, and the sums are those of its lock limits
abbrev pub Sound : FlatState → Caps → Type 0
Sound s granted = IsSound s.machine s.memory s.kernels granted s.spaces s.rows s.threads

-- the sums with the limits of one more kernel
abbrev pub plus : Caps → Caps → Caps
plus granted limits =
    record {
      kernels = granted.kernels + limits.kernels;
      spaces = granted.spaces + limits.spaces;
      threads = granted.threads + limits.threads;
      mappings = granted.mappings + limits.mappings;
    }

pub locks_push : (kernels : List FlatKernel) (limits : Caps) → locks_granted (kernels ++ new_kernel limits ∷ []) ≡ plus (locks_granted kernels) limits
locks_push kernels limits =
    rw (sum_by_push (λ (k : FlatKernel). k.limits.kernels) kernels (new_kernel limits), sum_by_push (λ (k : FlatKernel). k.limits.spaces) kernels (new_kernel limits), sum_by_push (λ (k : FlatKernel). k.limits.threads) kernels (new_kernel limits), sum_by_push (λ (k : FlatKernel). k.limits.mappings) kernels (new_kernel limits)) refl

-- rights in the place of others leave the lock limits
locks_with_right : (kernels : List FlatKernel) (kernel group : ℕ) (right : Bool × Bool) (o : Option FlatKernel) → slice_get kernels kernel ≡ o → locks_granted (with_right kernels o kernel group right) ≡ locks_granted kernels
locks_with_right kernels kernel group right None here = refl
locks_with_right kernels kernel group right (Some k) here =
    let u : FlatKernel = record k { rights = set k.rights group right } in
    rw (sum_by-set_same (λ (x : FlatKernel). x.limits.kernels) kernels kernel u k here refl, sum_by-set_same (λ (x : FlatKernel). x.limits.spaces) kernels kernel u k here refl, sum_by-set_same (λ (x : FlatKernel). x.limits.threads) kernels kernel u k here refl, sum_by-set_same (λ (x : FlatKernel). x.limits.mappings) kernels kernel u k here refl) refl

-- the machine has 1 to 16 groups
pub machine_rules : (s : FlatState) (machine : Machine) → broken_rule s (decls.Machine machine) ≡ None → (1 ≤ machine.groups) × (machine.groups ≤ 16)
unfolding broken_rule
machine_rules s machine e =
    let rules = first_rule s.machine s machine e in
    let sized = and_parts (nat_lt 0 machine.groups) (nat_le machine.groups 16) (not-false _ (breaks_none (not (nat_lt 0 machine.groups && nat_le machine.groups 16)) 6 _ rules.1).0) in
    (ltb-true 0 machine.groups sized.0, leb-true machine.groups 16 sized.1)

module _ (s : FlatState) (granted : Caps) (sound : Sound s granted) where
  pub machine_sound : (machine : Machine) → broken_rule s (decls.Machine machine) ≡ None → Sound (declared s (decls.Machine machine)) granted
  unfolding declared
  machine_sound machine e = record { formed = machine_formed s machine sound.formed e; sums = sound.sums }

  pub kernel_sound : (n : KernelNo) (limits : Caps) → broken_rule s (decls.Kernel n limits) ≡ None → Sound (declared s (decls.Kernel n limits)) (plus granted limits)
  unfolding declared
  kernel_sound n limits e = record { formed = kernel_formed s n limits sound.formed e; sums = ap (λ (c : Caps). plus c limits) sound.sums ∙ sym (locks_push s.kernels limits) }

  -- the sums with one more kernel are no more than the capacities
  pub kernel_sums : (n : KernelNo) (limits : Caps) → broken_rule s (decls.Kernel n limits) ≡ None → (granted.kernels + limits.kernels ≤ 16) × (granted.spaces + limits.spaces ≤ 64) × (granted.threads + limits.threads ≤ 256) × (granted.mappings + limits.mappings ≤ 65536)
  unfolding declared
  kernel_sums n limits e =
      let after = kernel_sound n limits e in
      let many = length_push s.kernels (new_kernel limits) in
      let room = after.formed.kernels.locks (omega (arith, many)) in
      let caps = sound.formed.memory.caps in
      let same = after.sums in
      let kernels : granted.kernels + limits.kernels ≡ (locks_granted (s.kernels ++ new_kernel limits ∷ [])).kernels = ap (λ (c : Caps). c.kernels) same in
      let spaces : granted.spaces + limits.spaces ≡ (locks_granted (s.kernels ++ new_kernel limits ∷ [])).spaces = ap (λ (c : Caps). c.spaces) same in
      let threads : granted.threads + limits.threads ≡ (locks_granted (s.kernels ++ new_kernel limits ∷ [])).threads = ap (λ (c : Caps). c.threads) same in
      let mappings : granted.mappings + limits.mappings ≡ (locks_granted (s.kernels ++ new_kernel limits ∷ [])).mappings = ap (λ (c : Caps). c.mappings) same in
      (omega (arith, room.0, caps.kernels), omega (arith, room.1, caps.spaces), omega (arith, room.2, caps.threads), omega (arith, room.3, caps.mappings))

  pub right_sound : (kernel : KernelNo) (group : ℕ) (read write : Bool) → broken_rule s (decls.Right kernel group read write) ≡ None → Sound (declared s (decls.Right kernel group read write)) granted
  unfolding declared
  right_sound kernel group read write e = record {
    formed = right_formed s kernel group read write sound.formed e;
    sums = sound.sums ∙ sym (locks_with_right s.kernels kernel.0 group (read, write) (slice_get s.kernels kernel.0) refl);
  }

  -- the kernel is declared, and the group one of 16
  pub right_rules : (kernel : KernelNo) (group : ℕ) (read write : Bool) → broken_rule s (decls.Right kernel group read write) ≡ None → (kernel.0 < length s.kernels) × (group < 16)
  unfolding broken_rule
  right_rules kernel group read write e =
      let rule = other_rule s.machine s (decls.Right kernel group read write) refl e in
      let there = breaks_none (nat_le (length s.kernels) kernel.0) 12 _ rule in
      let within = breaks_none (nat_le (groups_of s.machine) group) 13 _ there.1 in
      let lt = leb-false (groups_of s.machine) group within.0 in
      let few = sound.formed.memory.groups in
      (leb-false (length s.kernels) kernel.0 there.0, omega (arith, lt, few))

  pub space_sound : (n : SpaceNo) (kernel : KernelNo) → broken_rule s (decls.Space n kernel) ≡ None → Sound (declared s (decls.Space n kernel)) granted
  unfolding declared
  space_sound n kernel e = record { formed = space_formed s n kernel sound.formed e; sums = sound.sums }

  pub thread_sound : (n : ThreadNo) (space : SpaceNo) (pc priority a0 a1 : ℕ) → broken_rule s (decls.Thread n space pc priority a0 a1) ≡ None → Sound (declared s (decls.Thread n space pc priority a0 a1)) granted
  unfolding declared
  thread_sound n space pc priority a0 a1 e = record { formed = thread_declared_formed s n space pc priority a0 a1 sound.formed e; sums = sound.sums }

  pub row_sound : (space : SpaceNo) (vpn : Vpn) (frame : Frame) (flags : Flags) (receiver : Option ThreadNo) → broken_rule s (decls.Map space vpn frame flags receiver) ≡ None → Sound (declared s (decls.Map space vpn frame flags receiver)) granted
  unfolding declared
  row_sound space vpn frame flags receiver e = record { formed = row_formed s space vpn frame flags receiver sound.formed e; sums = sound.sums }

  pub word_sound : (frame : Frame) (offset value : ℕ) → broken_rule s (decls.Word frame offset value) ≡ None → Sound (declared s (decls.Word frame offset value)) granted
  unfolding declared
  word_sound frame offset value e = record { formed = word_formed s frame offset value sound.formed e; sums = sound.sums }

  -- the word is one of memory
  pub word_rules : (frame : Frame) (offset value : ℕ) → broken_rule s (decls.Word frame offset value) ≡ None → (frame.0 < 2048) × (offset ≤ 4092) × (offset % 4 ≡ 0) × (4096 * frame.0 + offset < length s.memory)
  unfolding broken_rule
  word_rules frame offset value e =
      let rule = other_rule s.machine s (decls.Word frame offset value) refl e in
      let there = breaks_none (not (has_frame s frame)) 13 _ rule in
      let placed = breaks_none (not (offset % 4 == 0) || nat_lt 4092 offset) 15 _ there.1 in
      let parts = or_parts (not (offset % 4 == 0)) (nat_lt 4092 offset) placed.0 in
      let lt = ltb-true frame.0 (128 * groups_of s.machine) (not-false _ there.0) in
      let le = ltb-false 4092 offset parts.1 in
      let few = sound.formed.memory.groups in
      let size = sound.formed.memory.size in
      (omega (arith, lt, few), le, eqb-true (offset % 4) 0 (not-false _ parts.0), omega (arith, lt, le, size))

-- the page has no row yet, and with a receiver the frame has fewer than four signal rows
pub row_rules : (s : FlatState) (space : SpaceNo) (vpn : Vpn) (frame : Frame) (flags : Flags) (receiver : Option ThreadNo) → broken_rule s (decls.Map space vpn frame flags receiver) ≡ None → (row_of s.rows space vpn.0 ≡ None) × (is_some receiver ≡ true → count_by (is_signal_row_of frame) s.rows < 4)
unfolding broken_rule
row_rules s space vpn frame flags receiver e =
    let rule = other_rule s.machine s (decls.Map space vpn frame flags receiver) refl e in
    let flagged = breaks_none (has_no_flag flags) 4 _ rule in
    let few = breaks_none (nat_le 262144 (length s.rows)) 9 _ flagged.1 in
    let there = breaks_none (nat_le (length s.spaces) space.0 || not (has_receiver s.threads receiver)) 12 _ few.1 in
    let placed = breaks_none (not (has_frame s frame) || nat_lt 1048575 vpn.0) 13 _ there.1 in
    let agreed = breaks_none (not (agree flags (is_some receiver))) 16 _ placed.1 in
    let fresh = breaks_none (is_some (row_of s.rows space vpn.0)) 17 _ agreed.1 in
    let received = breaks_none (not (is_receiver_in space s.threads receiver)) 18 _ fresh.1 in
    let four = breaks_none (is_some receiver && has_four s.rows frame) 19 _ received.1 in
    (none_from (row_of s.rows space vpn.0) fresh.0, λ some. leb-false 4 _ (and_second (is_some receiver) (has_four s.rows frame) some four.0))
  where
    none_from : (o : Option Row) → is_some o ≡ false → o ≡ None
    none_from None e = refl
    none_from (Some row) e = absurd (cc)

    and_second : (a b : Bool) → a ≡ true → (a && b) ≡ false → b ≡ false
    and_second true b is e = e
    and_second false b is e = absurd (cc)

-- what holds of a value that a call changed, or left where it failed
pub after_either : {X T E : Type 0} (P : X → Type 0) (r : Result T E) (x changed same : X) → OnOk r (x ≡ changed) → OnErr r (x ≡ same) → P changed → P same → P x
after_either P (Ok y) x changed same ok err there stays = subst P (sym ok) there
after_either P (Err y) x changed same ok err there stays = subst P (sym err) stays

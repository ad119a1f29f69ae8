-- What holds of all contents holds again once one kind changed.
use Rattle.std.proofs.Common.{◌≡◌, ◌≢◌, ◌⊎◌, ℕ, ◌+◌, ◌<◌, Bool, true, false, cond, List, [], ◌∷◌, ◌++◌, length, set, replicate, Option, Some, None, IsSome, sym, ◌∙◌, ap, subst, inl, inr, refl, arith, length-append}
use Rattle.std.specs.Option.{option_map}
use Rattle.std.proofs.lemmas.Bool.{cases_eq}
use Rattle.std.proofs.lemmas.List.{length-map}
use Rattle.cache_ident.specs.declared.idents.Ident.{Ident}
use Rattle.cache_ident.specs.declared.idents.Kind.{Kind}
use Rattle.cache_ident.specs.declared.idents.Kind.TheVariants as kind
use Rattle.cache_ident.specs.declared.names.Name.{Name}
use Rattle.cache_ident.specs.declared.rolls.Issued.{Issued}
use Rattle.cache_ident.specs.Rolls.{departed, departed_if, just_issued}
use Rattle.cache_ident.proofs.RollLemmas.{numbered-append, numbered-departed, standing_in-departed_other}
use Rattle.phys_groups.specs.declared.rows.Row.{Row}
use Rattle.slot_cache.specs.declared.loaded.Loaded.{Loaded}
use Rattle.slot_cache.specs.Cells.{cell_at, changed, just_loaded, IsLoaded}
use Rattle.slot_cache.specs.Rows.{row_name}
use Rattle.slot_cache.proofs.SlotLemmas.{all_none, cell_within, elsewhere, here, not_none, placed-put, placed-take, some_same}
use Rattle.kernel_cache.specs.declared.KernelRec.{KernelRec}
use Rattle.kernel_cache.specs.Kernels as kernel_rec
use Rattle.space_cache.specs.declared.SpaceRec.{SpaceRec}
use Rattle.space_cache.specs.Spaces as space_rec
use Rattle.thread_cache.specs.declared.ThreadRec.{ThreadRec}
use Rattle.thread_cache.specs.Threads as thread_rec
use Rattle.kind_store.specs.Kept as stored
use Rattle.row_store.specs.Kept.{KeptRows}
use Rattle.kind_store.specs.Changes as moves
use Rattle.kind_store.specs.Changes.{is_name}
use Rattle.kind_store.specs.Rolls.{AreEnrolled, StaysEnrolled}
use Rattle.kind_store.proofs.EnrolLemmas.{enrolled-none, standing_in-issued_other}
use Rattle.kind_store.specs.owner_shelf.proofs.NameLemmas.{eq_same, same_by_eq}
use Rattle.desc_stores.specs.Contents.{Contents}
use Rattle.desc_stores.specs.Sound.{kernel_named, space_named, thread_named, AreSound, IsListed, IsNumbered}

module _ {T : Type 0} (of : Kind) where
  -- where nothing was issued and nothing is loaded
  pub listed-none : (cap : ℕ) → IsListed {T = T} of [] (replicate cap None)
  listed-none cap = record {
    enrolled = enrolled-none of cap;
    placed = λ slot l there. absurd (not_none (replicate cap None) slot l there (all_none cap slot));
  }

  module _ (issued : List Issued) (cells : List (Option (Loaded T))) (listed : IsListed of issued cells) (ident : Ident) where
    -- another kind's identifier is issued, or leaves
    pub listed-elsewhere_loading : ident.kind ≢ of → ident.serial ≡ length issued → IsListed of (issued ++ just_issued ident ∷ []) cells
    listed-elsewhere_loading other serial =
        let longer : length (issued ++ just_issued ident ∷ []) ≡ length issued + 1 = length-append issued (just_issued ident ∷ []) in
        record {
          enrolled = record {
            live = λ i held.
                let apart : ident ≢ i = λ same. other (ap (λ (j : Ident). j.kind) (same ∙ sym held.2) ∙ (listed.placed i.slot held.0 held.1).1) in
                standing_in-issued_other issued ident i apart ∙ listed.enrolled.live i held;
            loaded = λ i is live.
                let apart : ident ≢ i = λ same. other (ap (λ (j : Ident). j.kind) same ∙ is) in
                listed.enrolled.loaded i is (sym (standing_in-issued_other issued ident i apart) ∙ live);
            older = λ slot l there. omega (arith, longer, listed.enrolled.older slot l there);
          };
          placed = listed.placed;
        }

    pub listed-elsewhere_leaving : (at : ℕ) → ident.kind ≢ of → IsListed of (departed issued ident at) cells
    listed-elsewhere_leaving at other = record {
      enrolled = record {
        live = λ i held.
            let apart : i ≢ ident = λ same. other (ap (λ (j : Ident). j.kind) (sym same ∙ sym held.2) ∙ (listed.placed i.slot held.0 held.1).1) in
            standing_in-departed_other issued ident at i apart ∙ listed.enrolled.live i held;
        loaded = λ i is live.
            let apart : i ≢ ident = λ same. other (ap (λ (j : Ident). j.kind) (sym same) ∙ is) in
            listed.enrolled.loaded i is (sym (standing_in-departed_other issued ident at i apart) ∙ live);
        older = λ slot l there. omega (arith, listed.enrolled.older slot l there, length-map issued (departed_if ident at));
      };
      placed = listed.placed;
    }

  -- what is loaded changed in its place
  pub listed-changing : (issued : List Issued) (old new : List (Option (Loaded T))) (ident : Ident) (change : Loaded T → Loaded T) → ((l : Loaded T) → (change l).ident ≡ l.ident) → IsLoaded old ident → new ≡ changed old ident.slot change → IsListed of issued old → StaysEnrolled of old new → IsListed of issued new
  listed-changing issued old new ident change stays held is listed enrolled = record {
    enrolled = enrolled issued listed.enrolled;
    placed = λ slot l there. elim (cases_eq slot ident.slot) [
      | inl at ↦
          let within = cell_within old ident.slot held.0 held.1 in
          let set_is : new ≡ set old ident.slot (Some (change held.0)) = is ∙ ap (λ c. set old ident.slot (option_map change c)) held.1 in
          let one : change held.0 ≡ l = some_same (change held.0) l (sym (here old ident.slot (Some (change held.0)) within) ∙ ap (λ cells. cell_at cells ident.slot) (sym set_is) ∙ ap (cell_at new) (sym at) ∙ there) in
          let same : l.ident ≡ held.0.ident = ap (λ (x : Loaded T). x.ident) (sym one) ∙ stays held.0 in
          let was = listed.placed ident.slot held.0 held.1 in
          (ap (λ (j : Ident). j.slot) same ∙ was.0 ∙ sym at, ap (λ (j : Ident). j.kind) same ∙ was.1)
      | inr apart ↦
          let set_is : new ≡ set old ident.slot (Some (change held.0)) = is ∙ ap (λ c. set old ident.slot (option_map change c)) held.1 in
          listed.placed slot l (sym (elsewhere old ident.slot slot (Some (change held.0)) apart) ∙ ap (λ cells. cell_at cells slot) (sym set_is) ∙ there)
    ];
  }

module _ {T : Type 0} (called : T → Name) (named : ℕ → Name) where
  -- the names that stand by contents that stay
  pub numbered-keeps : (old new : stored.Kept T) (count : ℕ) → IsNumbered called named old count → moves.KeepsContents called old new → IsNumbered called named new count
  numbered-keeps old new count numbered keeps = record {
    stands = λ number below. subst (λ o. IsSome o) (sym (keeps (named number))) (numbered.stands number below);
    only = λ other some. numbered.only other (subst (λ o. IsSome o) (keeps other) some);
  }

  -- by a content that took the place of another
  pub numbered-has : (old new : stored.Kept T) (count : ℕ) (n : Name) (v : T) → IsNumbered called named old count → IsSome (stored.content_of called old n) → moves.HasContent called old new n v → IsNumbered called named new count
  numbered-has old new count n v numbered was has = record {
    stands = λ number below. by (named number) (is_name n (named number)) refl (numbered.stands number below);
    only = λ other some. back other (is_name n other) refl some;
  }
    where
      by : (other : Name) (b : Bool) → is_name n other ≡ b → IsSome (stored.content_of called old other) → IsSome (stored.content_of called new other)
      by other true is some = subst (λ o. IsSome o) (sym (has other ∙ ap (λ b. cond b (Some v) (stored.content_of called old other)) is)) (some_is v)
        where
          some_is : (v : T) → IsSome (Some v)
          some_is v = search
      by other false is some = subst (λ o. IsSome o) (sym (has other ∙ ap (λ b. cond b (Some v) (stored.content_of called old other)) is)) some

      back : (other : Name) (b : Bool) → is_name n other ≡ b → IsSome (stored.content_of called new other) → (number : ℕ) × (number < count) × (other ≡ named number)
      back other true is some = subst (λ m. (number : ℕ) × (number < count) × (m ≡ named number)) (same_by_eq n other is) (numbered.only n was)
      back other false is some = numbered.only other (subst (λ o. IsSome o) (has other ∙ ap (λ b. cond b (Some v) (stored.content_of called old other)) is) some)

  -- by a new one with the next number
  pub numbered-more : (old new : stored.Kept T) (count : ℕ) (v : T) → IsNumbered called named old count → moves.HasContent called old new (named count) v → IsNumbered called named new (count + 1)
  numbered-more old new count v numbered has = record {
    stands = λ number below. elim (cases_eq number count) [
      | inl at ↦ by (named number) (is_name (named count) (named number)) refl (inl (eq_same (named count) (named number) (ap named (sym at))))
      | inr apart ↦ by (named number) (is_name (named count) (named number)) refl (inr (numbered.stands number (omega arith)))
    ];
    only = λ other some. back other (is_name (named count) other) refl some;
  }
    where
      some_is : (v : T) → IsSome (Some v)
      some_is v = search

      by : (other : Name) (b : Bool) → is_name (named count) other ≡ b → (is_name (named count) other ≡ true) ⊎ IsSome (stored.content_of called old other) → IsSome (stored.content_of called new other)
      by other true is some = subst (λ o. IsSome o) (sym (has other ∙ ap (λ b. cond b (Some v) (stored.content_of called old other)) is)) (some_is v)
      by other false is (inl passes) = absurd (cc (sym is ∙ passes))
      by other false is (inr some) = subst (λ o. IsSome o) (sym (has other ∙ ap (λ b. cond b (Some v) (stored.content_of called old other)) is)) some

      back : (other : Name) (b : Bool) → is_name (named count) other ≡ b → IsSome (stored.content_of called new other) → (number : ℕ) × (number < count + 1) × (other ≡ named number)
      back other true is some = (count, omega arith, sym (same_by_eq (named count) other is))
      back other false is some =
          let was = numbered.only other (subst (λ o. IsSome o) (has other ∙ ap (λ b. cond b (Some v) (stored.content_of called old other)) is) some) in
          (was.0, omega (arith, was.1), was.2)

-- kernels
module _ (c : Contents) (sound : AreSound c) (k : stored.Kept KernelRec) (spare : ℕ) where
  pub kernels-sound_loading : (issued : List Issued) (ident : Ident) (v : KernelRec) → issued ≡ c.issued ++ just_issued ident ∷ [] → ident.kind ≡ kind.Kernel → ident.serial ≡ length c.issued → ident.slot < length c.kernels.cells → k.cells ≡ set c.kernels.cells ident.slot (Some (just_loaded ident v)) → AreEnrolled kind.Kernel issued k.cells → moves.KeepsContents kernel_rec.name_of c.kernels k → AreSound (record c { kernels = k; issued = issued; spare = spare })
  kernels-sound_loading issued ident v more of_kind serial within is enrolled keeps = record {
    numbered = rw more (numbered-append 0 c.issued (just_issued ident) sound.numbered (omega (arith, serial)));
    kernels = record { enrolled = enrolled; placed = rw is (placed-put kind.Kernel c.kernels.cells ident.slot (just_loaded ident v) within refl of_kind sound.kernels.placed) };
    spaces = rw more (listed-elsewhere_loading kind.Space c.issued c.spaces.cells sound.spaces ident (λ same. cc) serial);
    threads = rw more (listed-elsewhere_loading kind.Thread c.issued c.threads.cells sound.threads ident (λ same. cc) serial);
    rows = rw more (listed-elsewhere_loading kind.Mapping c.issued c.rows.kept.cells sound.rows ident (λ same. cc) serial);
    kernel_names = numbered-keeps kernel_rec.name_of kernel_named c.kernels k c.kernel_count sound.kernel_names keeps;
    space_names = sound.space_names;
    thread_names = sound.thread_names;
  }

  pub kernels-sound_leaving : (issued : List Issued) (ident : Ident) (at : ℕ) → issued ≡ departed c.issued ident at → ident.kind ≡ kind.Kernel → IsLoaded c.kernels.cells ident → k.cells ≡ set c.kernels.cells ident.slot None → AreEnrolled kind.Kernel issued k.cells → moves.KeepsContents kernel_rec.name_of c.kernels k → AreSound (record c { kernels = k; issued = issued; spare = spare })
  kernels-sound_leaving issued ident at left of_kind held is enrolled keeps = record {
    numbered = rw left (numbered-departed 0 c.issued ident at sound.numbered);
    kernels = record { enrolled = enrolled; placed = rw is (placed-take kind.Kernel c.kernels.cells ident.slot (cell_within c.kernels.cells ident.slot held.0 held.1) sound.kernels.placed) };
    spaces = rw left (listed-elsewhere_leaving kind.Space c.issued c.spaces.cells sound.spaces ident at (λ same. cc));
    threads = rw left (listed-elsewhere_leaving kind.Thread c.issued c.threads.cells sound.threads ident at (λ same. cc));
    rows = rw left (listed-elsewhere_leaving kind.Mapping c.issued c.rows.kept.cells sound.rows ident at (λ same. cc));
    kernel_names = numbered-keeps kernel_rec.name_of kernel_named c.kernels k c.kernel_count sound.kernel_names keeps;
    space_names = sound.space_names;
    thread_names = sound.thread_names;
  }

  pub kernels-sound_changing : (ident : Ident) (change : Loaded KernelRec → Loaded KernelRec) → ((l : Loaded KernelRec) → (change l).ident ≡ l.ident) → IsLoaded c.kernels.cells ident → k.cells ≡ changed c.kernels.cells ident.slot change → StaysEnrolled kind.Kernel c.kernels.cells k.cells → IsNumbered kernel_rec.name_of kernel_named k c.kernel_count → AreSound (record c { kernels = k; issued = c.issued; spare = spare })
  kernels-sound_changing ident change stays held is enrolled numbered = record {
    numbered = sound.numbered;
    kernels = listed-changing kind.Kernel c.issued c.kernels.cells k.cells ident change stays held is sound.kernels enrolled;
    spaces = sound.spaces;
    threads = sound.threads;
    rows = sound.rows;
    kernel_names = numbered;
    space_names = sound.space_names;
    thread_names = sound.thread_names;
  }

  pub kernels-sound_declaring : (count : ℕ) → count ≡ c.kernel_count + 1 → k.cells ≡ c.kernels.cells → IsNumbered kernel_rec.name_of kernel_named k (c.kernel_count + 1) → AreSound (record c { kernels = k; kernel_count = count; issued = c.issued; spare = spare })
  kernels-sound_declaring count more cells numbered = record {
    numbered = sound.numbered;
    kernels = rw cells sound.kernels;
    spaces = sound.spaces;
    threads = sound.threads;
    rows = sound.rows;
    kernel_names = rw more numbered;
    space_names = sound.space_names;
    thread_names = sound.thread_names;
  }

-- spaces
module _ (c : Contents) (sound : AreSound c) (k : stored.Kept SpaceRec) (spare : ℕ) where
  pub spaces-sound_loading : (issued : List Issued) (ident : Ident) (v : SpaceRec) → issued ≡ c.issued ++ just_issued ident ∷ [] → ident.kind ≡ kind.Space → ident.serial ≡ length c.issued → ident.slot < length c.spaces.cells → k.cells ≡ set c.spaces.cells ident.slot (Some (just_loaded ident v)) → AreEnrolled kind.Space issued k.cells → moves.KeepsContents space_rec.name_of c.spaces k → AreSound (record c { spaces = k; issued = issued; spare = spare })
  spaces-sound_loading issued ident v more of_kind serial within is enrolled keeps = record {
    numbered = rw more (numbered-append 0 c.issued (just_issued ident) sound.numbered (omega (arith, serial)));
    kernels = rw more (listed-elsewhere_loading kind.Kernel c.issued c.kernels.cells sound.kernels ident (λ same. cc) serial);
    spaces = record { enrolled = enrolled; placed = rw is (placed-put kind.Space c.spaces.cells ident.slot (just_loaded ident v) within refl of_kind sound.spaces.placed) };
    threads = rw more (listed-elsewhere_loading kind.Thread c.issued c.threads.cells sound.threads ident (λ same. cc) serial);
    rows = rw more (listed-elsewhere_loading kind.Mapping c.issued c.rows.kept.cells sound.rows ident (λ same. cc) serial);
    kernel_names = sound.kernel_names;
    space_names = numbered-keeps space_rec.name_of space_named c.spaces k c.space_count sound.space_names keeps;
    thread_names = sound.thread_names;
  }

  pub spaces-sound_leaving : (issued : List Issued) (ident : Ident) (at : ℕ) → issued ≡ departed c.issued ident at → ident.kind ≡ kind.Space → IsLoaded c.spaces.cells ident → k.cells ≡ set c.spaces.cells ident.slot None → AreEnrolled kind.Space issued k.cells → moves.KeepsContents space_rec.name_of c.spaces k → AreSound (record c { spaces = k; issued = issued; spare = spare })
  spaces-sound_leaving issued ident at left of_kind held is enrolled keeps = record {
    numbered = rw left (numbered-departed 0 c.issued ident at sound.numbered);
    kernels = rw left (listed-elsewhere_leaving kind.Kernel c.issued c.kernels.cells sound.kernels ident at (λ same. cc));
    spaces = record { enrolled = enrolled; placed = rw is (placed-take kind.Space c.spaces.cells ident.slot (cell_within c.spaces.cells ident.slot held.0 held.1) sound.spaces.placed) };
    threads = rw left (listed-elsewhere_leaving kind.Thread c.issued c.threads.cells sound.threads ident at (λ same. cc));
    rows = rw left (listed-elsewhere_leaving kind.Mapping c.issued c.rows.kept.cells sound.rows ident at (λ same. cc));
    kernel_names = sound.kernel_names;
    space_names = numbered-keeps space_rec.name_of space_named c.spaces k c.space_count sound.space_names keeps;
    thread_names = sound.thread_names;
  }

  pub spaces-sound_changing : (ident : Ident) (change : Loaded SpaceRec → Loaded SpaceRec) → ((l : Loaded SpaceRec) → (change l).ident ≡ l.ident) → IsLoaded c.spaces.cells ident → k.cells ≡ changed c.spaces.cells ident.slot change → StaysEnrolled kind.Space c.spaces.cells k.cells → IsNumbered space_rec.name_of space_named k c.space_count → AreSound (record c { spaces = k; issued = c.issued; spare = spare })
  spaces-sound_changing ident change stays held is enrolled numbered = record {
    numbered = sound.numbered;
    kernels = sound.kernels;
    spaces = listed-changing kind.Space c.issued c.spaces.cells k.cells ident change stays held is sound.spaces enrolled;
    threads = sound.threads;
    rows = sound.rows;
    kernel_names = sound.kernel_names;
    space_names = numbered;
    thread_names = sound.thread_names;
  }

  pub spaces-sound_declaring : (count : ℕ) → count ≡ c.space_count + 1 → k.cells ≡ c.spaces.cells → IsNumbered space_rec.name_of space_named k (c.space_count + 1) → AreSound (record c { spaces = k; space_count = count; issued = c.issued; spare = spare })
  spaces-sound_declaring count more cells numbered = record {
    numbered = sound.numbered;
    kernels = sound.kernels;
    spaces = rw cells sound.spaces;
    threads = sound.threads;
    rows = sound.rows;
    kernel_names = sound.kernel_names;
    space_names = rw more numbered;
    thread_names = sound.thread_names;
  }

-- threads
module _ (c : Contents) (sound : AreSound c) (k : stored.Kept ThreadRec) (spare : ℕ) where
  pub threads-sound_loading : (issued : List Issued) (ident : Ident) (v : ThreadRec) → issued ≡ c.issued ++ just_issued ident ∷ [] → ident.kind ≡ kind.Thread → ident.serial ≡ length c.issued → ident.slot < length c.threads.cells → k.cells ≡ set c.threads.cells ident.slot (Some (just_loaded ident v)) → AreEnrolled kind.Thread issued k.cells → moves.KeepsContents thread_rec.name_of c.threads k → AreSound (record c { threads = k; issued = issued; spare = spare })
  threads-sound_loading issued ident v more of_kind serial within is enrolled keeps = record {
    numbered = rw more (numbered-append 0 c.issued (just_issued ident) sound.numbered (omega (arith, serial)));
    kernels = rw more (listed-elsewhere_loading kind.Kernel c.issued c.kernels.cells sound.kernels ident (λ same. cc) serial);
    spaces = rw more (listed-elsewhere_loading kind.Space c.issued c.spaces.cells sound.spaces ident (λ same. cc) serial);
    threads = record { enrolled = enrolled; placed = rw is (placed-put kind.Thread c.threads.cells ident.slot (just_loaded ident v) within refl of_kind sound.threads.placed) };
    rows = rw more (listed-elsewhere_loading kind.Mapping c.issued c.rows.kept.cells sound.rows ident (λ same. cc) serial);
    kernel_names = sound.kernel_names;
    space_names = sound.space_names;
    thread_names = numbered-keeps thread_rec.name_of thread_named c.threads k c.thread_count sound.thread_names keeps;
  }

  pub threads-sound_leaving : (issued : List Issued) (ident : Ident) (at : ℕ) → issued ≡ departed c.issued ident at → ident.kind ≡ kind.Thread → IsLoaded c.threads.cells ident → k.cells ≡ set c.threads.cells ident.slot None → AreEnrolled kind.Thread issued k.cells → moves.KeepsContents thread_rec.name_of c.threads k → AreSound (record c { threads = k; issued = issued; spare = spare })
  threads-sound_leaving issued ident at left of_kind held is enrolled keeps = record {
    numbered = rw left (numbered-departed 0 c.issued ident at sound.numbered);
    kernels = rw left (listed-elsewhere_leaving kind.Kernel c.issued c.kernels.cells sound.kernels ident at (λ same. cc));
    spaces = rw left (listed-elsewhere_leaving kind.Space c.issued c.spaces.cells sound.spaces ident at (λ same. cc));
    threads = record { enrolled = enrolled; placed = rw is (placed-take kind.Thread c.threads.cells ident.slot (cell_within c.threads.cells ident.slot held.0 held.1) sound.threads.placed) };
    rows = rw left (listed-elsewhere_leaving kind.Mapping c.issued c.rows.kept.cells sound.rows ident at (λ same. cc));
    kernel_names = sound.kernel_names;
    space_names = sound.space_names;
    thread_names = numbered-keeps thread_rec.name_of thread_named c.threads k c.thread_count sound.thread_names keeps;
  }

  pub threads-sound_changing : (ident : Ident) (change : Loaded ThreadRec → Loaded ThreadRec) → ((l : Loaded ThreadRec) → (change l).ident ≡ l.ident) → IsLoaded c.threads.cells ident → k.cells ≡ changed c.threads.cells ident.slot change → StaysEnrolled kind.Thread c.threads.cells k.cells → IsNumbered thread_rec.name_of thread_named k c.thread_count → AreSound (record c { threads = k; issued = c.issued; spare = spare })
  threads-sound_changing ident change stays held is enrolled numbered = record {
    numbered = sound.numbered;
    kernels = sound.kernels;
    spaces = sound.spaces;
    threads = listed-changing kind.Thread c.issued c.threads.cells k.cells ident change stays held is sound.threads enrolled;
    rows = sound.rows;
    kernel_names = sound.kernel_names;
    space_names = sound.space_names;
    thread_names = numbered;
  }

  pub threads-sound_declaring : (count : ℕ) → count ≡ c.thread_count + 1 → k.cells ≡ c.threads.cells → IsNumbered thread_rec.name_of thread_named k (c.thread_count + 1) → AreSound (record c { threads = k; thread_count = count; issued = c.issued; spare = spare })
  threads-sound_declaring count more cells numbered = record {
    numbered = sound.numbered;
    kernels = sound.kernels;
    spaces = sound.spaces;
    threads = rw cells sound.threads;
    rows = sound.rows;
    kernel_names = sound.kernel_names;
    space_names = sound.space_names;
    thread_names = rw more numbered;
  }

-- rows
module _ (c : Contents) (sound : AreSound c) (k : stored.Kept Row) (r : KeptRows) (spare : ℕ) where
  pub rows-sound_loading : (issued : List Issued) (ident : Ident) (v : Row) → issued ≡ c.issued ++ just_issued ident ∷ [] → ident.kind ≡ kind.Mapping → ident.serial ≡ length c.issued → ident.slot < length c.rows.kept.cells → k.cells ≡ set c.rows.kept.cells ident.slot (Some (just_loaded ident v)) → AreEnrolled kind.Mapping issued k.cells → moves.KeepsContents row_name c.rows.kept k → AreSound (record c { rows = record r { kept = k }; issued = issued; spare = spare })
  rows-sound_loading issued ident v more of_kind serial within is enrolled keeps = record {
    numbered = rw more (numbered-append 0 c.issued (just_issued ident) sound.numbered (omega (arith, serial)));
    kernels = rw more (listed-elsewhere_loading kind.Kernel c.issued c.kernels.cells sound.kernels ident (λ same. cc) serial);
    spaces = rw more (listed-elsewhere_loading kind.Space c.issued c.spaces.cells sound.spaces ident (λ same. cc) serial);
    threads = rw more (listed-elsewhere_loading kind.Thread c.issued c.threads.cells sound.threads ident (λ same. cc) serial);
    rows = record { enrolled = enrolled; placed = rw is (placed-put kind.Mapping c.rows.kept.cells ident.slot (just_loaded ident v) within refl of_kind sound.rows.placed) };
    kernel_names = sound.kernel_names;
    space_names = sound.space_names;
    thread_names = sound.thread_names;
  }

  pub rows-sound_leaving : (issued : List Issued) (ident : Ident) (at : ℕ) → issued ≡ departed c.issued ident at → ident.kind ≡ kind.Mapping → IsLoaded c.rows.kept.cells ident → k.cells ≡ set c.rows.kept.cells ident.slot None → AreEnrolled kind.Mapping issued k.cells → moves.KeepsContents row_name c.rows.kept k → AreSound (record c { rows = record r { kept = k }; issued = issued; spare = spare })
  rows-sound_leaving issued ident at left of_kind held is enrolled keeps = record {
    numbered = rw left (numbered-departed 0 c.issued ident at sound.numbered);
    kernels = rw left (listed-elsewhere_leaving kind.Kernel c.issued c.kernels.cells sound.kernels ident at (λ same. cc));
    spaces = rw left (listed-elsewhere_leaving kind.Space c.issued c.spaces.cells sound.spaces ident at (λ same. cc));
    threads = rw left (listed-elsewhere_leaving kind.Thread c.issued c.threads.cells sound.threads ident at (λ same. cc));
    rows = record { enrolled = enrolled; placed = rw is (placed-take kind.Mapping c.rows.kept.cells ident.slot (cell_within c.rows.kept.cells ident.slot held.0 held.1) sound.rows.placed) };
    kernel_names = sound.kernel_names;
    space_names = sound.space_names;
    thread_names = sound.thread_names;
  }

  pub rows-sound_changing : (ident : Ident) (change : Loaded Row → Loaded Row) → ((l : Loaded Row) → (change l).ident ≡ l.ident) → IsLoaded c.rows.kept.cells ident → k.cells ≡ changed c.rows.kept.cells ident.slot change → StaysEnrolled kind.Mapping c.rows.kept.cells k.cells → AreSound (record c { rows = record r { kept = k }; issued = c.issued; spare = spare })
  rows-sound_changing ident change stays held is enrolled = record {
    numbered = sound.numbered;
    kernels = sound.kernels;
    spaces = sound.spaces;
    threads = sound.threads;
    rows = listed-changing kind.Mapping c.issued c.rows.kept.cells k.cells ident change stays held is sound.rows enrolled;
    kernel_names = sound.kernel_names;
    space_names = sound.space_names;
    thread_names = sound.thread_names;
  }

  pub rows-sound_declaring : k.cells ≡ c.rows.kept.cells → AreSound (record c { rows = record r { kept = k }; issued = c.issued; spare = spare })
  rows-sound_declaring cells = record {
    numbered = sound.numbered;
    kernels = sound.kernels;
    spaces = sound.spaces;
    threads = sound.threads;
    rows = rw cells sound.rows;
    kernel_names = sound.kernel_names;
    space_names = sound.space_names;
    thread_names = sound.thread_names;
  }

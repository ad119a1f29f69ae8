-- Contents that show alike.
use Rattle.std.proofs.Common.{◌≡◌, ℕ, List, map, filter_map, Option, refl, sym, ◌∙◌, ap}
use Rattle.std.specs.List.{range_with_len}
use Rattle.cache_ident.specs.declared.names.KernelNo.{KernelNo}
use Rattle.cache_ident.specs.declared.names.Name.{Name}
use Rattle.phys_groups.specs.declared.rows.Row.{Row}
use Rattle.flat_state.specs.declared.events.Machine.{Machine}
use Rattle.flat_state.specs.declared.records.FlatKernel.{FlatKernel}
use Rattle.flat_state.specs.declared.records.FlatThread.{FlatThread}
use Rattle.flat_state.specs.State.{FlatState}
use Rattle.desc_stores.specs.Changes.{KeepsContents}
use Rattle.desc_stores.specs.Contents.{content_of, Contents}
use Rattle.desc_stores.specs.Sound.{kernel_named, space_named, thread_named}
use Rattle.shown_state.specs.Shown.{kernel_of, row_of_item, shown, space_of, thread_of, HasSameNames, ShowsAlike}
use Rattle.shown_state.proofs.ListLemmas.{filter_map-agree}

-- states with the same lists are one
pub same_lists : (s t : FlatState) → s.machine ≡ t.machine → s.memory ≡ t.memory → s.kernels ≡ t.kernels → s.spaces ≡ t.spaces → s.rows ≡ t.rows → s.threads ≡ t.threads → s ≡ t
same_lists s t machine memory kernels spaces rows threads =
    ap (λ (x : Option Machine). record s { machine = x }) machine
    ∙ ap (λ (x : List ℕ). record s { machine = t.machine; memory = x }) memory
    ∙ ap (λ (x : List FlatKernel). record t { kernels = x; spaces = s.spaces; rows = s.rows; threads = s.threads }) kernels
    ∙ ap (λ (x : List KernelNo). record t { spaces = x; rows = s.rows; threads = s.threads }) spaces
    ∙ ap (λ (x : List Row). record t { rows = x; threads = s.threads }) rows
    ∙ ap (λ (x : List FlatThread). record t { threads = x }) threads

module _ {Y : Type 0} (named : ℕ → Name) (f g : Name → Option Y) (same : (n : Name) → g n ≡ f n) where
  numbered_alike : (old new : ℕ) → new ≡ old → filter_map g (map named (range_with_len 0 new)) ≡ filter_map f (map named (range_with_len 0 old))
  numbered_alike old new count = ap (λ n. filter_map g (map named (range_with_len 0 n))) count ∙ filter_map-agree g f (map named (range_with_len 0 old)) (λ n there. same n)

module _ (machine : Option Machine) (memory : List ℕ) (c : Contents) where
  -- a state that is shown has the machine and the memory that it is shown with
  pub shown_with : (s : FlatState) → s.machine ≡ machine → s.memory ≡ memory → (shown machine memory c).kernels ≡ s.kernels → (shown machine memory c).spaces ≡ s.spaces → (shown machine memory c).rows ≡ s.rows → (shown machine memory c).threads ≡ s.threads → shown machine memory c ≡ s
  unfolding shown
  shown_with s of_machine of_memory kernels spaces rows threads = same_lists (shown machine memory c) s (sym of_machine) (sym of_memory) kernels spaces rows threads

module _ (machine : Option Machine) (memory : List ℕ) (old new : Contents) where
  -- the lists of each kind stay where what each name shows of the kind does
  pub kernels_alike : new.kernel_count ≡ old.kernel_count → ((n : Name) → kernel_of (content_of new n) ≡ kernel_of (content_of old n)) → (shown machine memory new).kernels ≡ (shown machine memory old).kernels
  unfolding shown
  kernels_alike count same = numbered_alike kernel_named (λ n. kernel_of (content_of old n)) (λ n. kernel_of (content_of new n)) same old.kernel_count new.kernel_count count

  pub spaces_alike : new.space_count ≡ old.space_count → ((n : Name) → space_of (content_of new n) ≡ space_of (content_of old n)) → (shown machine memory new).spaces ≡ (shown machine memory old).spaces
  unfolding shown
  spaces_alike count same = numbered_alike space_named (λ n. space_of (content_of old n)) (λ n. space_of (content_of new n)) same old.space_count new.space_count count

  pub threads_alike : new.thread_count ≡ old.thread_count → ((n : Name) → thread_of (content_of new n) ≡ thread_of (content_of old n)) → (shown machine memory new).threads ≡ (shown machine memory old).threads
  unfolding shown
  threads_alike count same = numbered_alike thread_named (λ n. thread_of (content_of old n)) (λ n. thread_of (content_of new n)) same old.thread_count new.thread_count count

  pub rows_alike : new.rows.names ≡ old.rows.names → ((n : Name) → row_of_item (content_of new n) ≡ row_of_item (content_of old n)) → (shown machine memory new).rows ≡ (shown machine memory old).rows
  unfolding shown
  rows_alike names same = ap (λ (ns : List Name). filter_map (λ n. row_of_item (content_of new n)) ns) names ∙ filter_map-agree (λ n. row_of_item (content_of new n)) (λ n. row_of_item (content_of old n)) old.rows.names (λ n there. same n)

  pub shown_alike : ShowsAlike old new → shown machine memory new ≡ shown machine memory old
  unfolding shown
  shown_alike alike = shown_with machine memory new (shown machine memory old) refl refl (kernels_alike alike.names.kernels alike.kernels) (spaces_alike alike.names.spaces alike.spaces) (rows_alike alike.names.rows alike.rows) (threads_alike alike.names.threads alike.threads)

pub same_itself : (c : Contents) → HasSameNames c c
same_itself c = record { kernels = refl; spaces = refl; threads = refl; rows = refl }

pub same_onward : (a b c : Contents) → HasSameNames a b → HasSameNames b c → HasSameNames a c
same_onward a b c first second = record {
  kernels = second.kernels ∙ first.kernels;
  spaces = second.spaces ∙ first.spaces;
  threads = second.threads ∙ first.threads;
  rows = second.rows ∙ first.rows;
}

-- where no content changed, and no name came or went
pub alike_kept : (old new : Contents) → KeepsContents old new → HasSameNames old new → ShowsAlike old new
alike_kept old new keeps names = record {
  names = names;
  kernels = λ n. ap kernel_of (keeps n);
  spaces = λ n. ap space_of (keeps n);
  threads = λ n. ap thread_of (keeps n);
  rows = λ n. ap row_of_item (keeps n);
}

pub alike_itself : (c : Contents) → ShowsAlike c c
alike_itself c = alike_kept c c (λ n. refl) (same_itself c)

pub alike_onward : (a b c : Contents) → ShowsAlike a b → ShowsAlike b c → ShowsAlike a c
alike_onward a b c first second = record {
  names = same_onward a b c first.names second.names;
  kernels = λ n. second.kernels n ∙ first.kernels n;
  spaces = λ n. second.spaces n ∙ first.spaces n;
  threads = λ n. second.threads n ∙ first.threads n;
  rows = λ n. second.rows n ∙ first.rows n;
}

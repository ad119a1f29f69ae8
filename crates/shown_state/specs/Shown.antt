-- The machine with unlimited tables that contents show: by name, in declared order, without identifiers, locks and checkouts.
use Rattle.std.specs.Prelude.{◌≡◌, ℕ, List, filter_map, Option, Some, None}
use Rattle.cache_ident.specs.declared.idents.Kind.TheVariants as kind
use Rattle.cache_ident.specs.declared.names.KernelNo.{KernelNo}
use Rattle.cache_ident.specs.declared.names.Name.{Name}
use Rattle.phys_groups.specs.declared.rows.Row.{Row}
use Rattle.desc_stores.specs.kernel_cache.specs.declared.KernelRec.{KernelRec}
use Rattle.desc_stores.specs.thread_cache.specs.declared.ThreadRec.{ThreadRec}
use Rattle.flat_state.specs.declared.events.Machine.{Machine}
use Rattle.flat_state.specs.declared.records.FlatKernel.{FlatKernel}
use Rattle.flat_state.specs.declared.records.FlatThread.{FlatThread}
use Rattle.flat_state.specs.State.{FlatState}
use Rattle.desc_stores.specs.declared.items.Item.{Item}
use Rattle.desc_stores.specs.declared.items.Item.TheVariants as item
use Rattle.desc_stores.specs.Contents.{content_of, names_of, Contents}

-- a kernel but for its locks
abbrev pub flat_kernel : KernelRec → FlatKernel
flat_kernel kernel = record { limits = kernel.limits; rights = kernel.rights }

-- a thread but for its processor and its last checkout
abbrev pub flat_thread : ThreadRec → FlatThread
flat_thread thread =
    record { no = thread.no; space = thread.space; context = thread.context; status = thread.status; priority = thread.priority; queue = thread.queue; output = thread.output }

-- what a content shows of a kernel, of a space (its kernel), of a thread and of a row, if it is one
abbrev pub kernel_of : Option Item → Option FlatKernel
kernel_of (Some (item.Kernel kernel)) = Some (flat_kernel kernel)
kernel_of _ = None

abbrev pub space_of : Option Item → Option KernelNo
space_of (Some (item.Space space)) = Some space.kernel
space_of _ = None

abbrev pub thread_of : Option Item → Option FlatThread
thread_of (Some (item.Thread thread)) = Some (flat_thread thread)
thread_of _ = None

abbrev pub row_of_item : Option Item → Option Row
row_of_item (Some (item.Mapping row)) = Some row
row_of_item _ = None

-- the machine that they show, with what they don't say: which machine it is, and its memory
unfoldable pub shown : Option Machine → List ℕ → Contents → FlatState
shown machine memory c =
    record {
      machine = machine;
      memory = memory;
      kernels = filter_map (λ n. kernel_of (content_of c n)) (names_of c kind.Kernel);
      spaces = filter_map (λ n. space_of (content_of c n)) (names_of c kind.Space);
      rows = filter_map (λ n. row_of_item (content_of c n)) (names_of c kind.Mapping);
      threads = filter_map (λ n. thread_of (content_of c n)) (names_of c kind.Thread);
    }

-- the same names stand, in the same order
pub record HasSameNames (old new : Contents) : Type 0 where
  pub kernels : new.kernel_count ≡ old.kernel_count
  pub spaces : new.space_count ≡ old.space_count
  pub threads : new.thread_count ≡ old.thread_count
  pub rows : new.rows.names ≡ old.rows.names

-- the same names stand, in the same order, and each shows what it showed
pub record ShowsAlike (old new : Contents) : Type 0 where
  pub names : HasSameNames old new
  pub kernels : (name : Name) → kernel_of (content_of new name) ≡ kernel_of (content_of old name)
  pub spaces : (name : Name) → space_of (content_of new name) ≡ space_of (content_of old name)
  pub threads : (name : Name) → thread_of (content_of new name) ≡ thread_of (content_of old name)
  pub rows : (name : Name) → row_of_item (content_of new name) ≡ row_of_item (content_of old name)

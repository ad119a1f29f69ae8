-- What leaves the names that stand, and shows nothing new.
use Rattle.std.proofs.Common.{◌≡◌, Bool, refl, sym, subst}
use Rattle.cache_ident.specs.declared.idents.Ident.{Ident}
use Rattle.cache_ident.specs.declared.idents.Kind.{Kind}
use Rattle.cache_ident.specs.declared.idents.Kind.TheVariants as kind
use Rattle.cache_ident.specs.declared.names.KernelNo.{KernelNo}
use Rattle.cache_ident.specs.declared.names.Name.{Name}
use Rattle.cache_ident.specs.declared.names.Name.TheVariants as name
use Rattle.desc_stores.specs.kind_store.specs.Kept as stored
use Rattle.desc_stores.specs.declared.items.Item.{Item}
use Rattle.desc_stores.specs.declared.items.Item.TheVariants as item
use Rattle.desc_stores.specs.Changes.{relocked, relocked_in, with_item, IsLeavingIn, IsLeavingOf, IsLoadingOf, KeepsContents, OnlyMakesRoom}
use Rattle.desc_stores.specs.Contents.{Contents}
use Rattle.shown_state.specs.Shown.{HasSameNames, ShowsAlike}
use Rattle.shown_state.proofs.AlikeLemmas.{alike_kept}

module _ (old new : Contents) where
  -- contents with the same counts and names
  same_by : (c : Contents) → new ≡ c → c.kernel_count ≡ old.kernel_count → c.space_count ≡ old.space_count → c.thread_count ≡ old.thread_count → c.rows.names ≡ old.rows.names → HasSameNames old new
  same_by c is kernels spaces threads rows = subst (HasSameNames old) (sym is) (record { kernels = kernels; spaces = spaces; threads = threads; rows = rows })

  pub names_in_kernels : new ≡ record old { kernels = new.kernels } → HasSameNames old new
  names_in_kernels is = same_by (record old { kernels = new.kernels }) is refl refl refl refl

  pub names_in_spaces : new ≡ record old { spaces = new.spaces } → HasSameNames old new
  names_in_spaces is = same_by (record old { spaces = new.spaces }) is refl refl refl refl

  pub names_in_threads : new ≡ record old { threads = new.threads } → HasSameNames old new
  names_in_threads is = same_by (record old { threads = new.threads }) is refl refl refl refl

  pub names_in_rows : new ≡ record old { rows = record old.rows { kept = new.rows.kept } } → HasSameNames old new
  names_in_rows is = same_by (record old { rows = record old.rows { kept = new.rows.kept } }) is refl refl refl refl

  pub names_changed : (ident : Ident) (content : Item) → new ≡ with_item old ident content → HasSameNames old new
  names_changed ident (item.Kernel kernel) is = same_by (with_item old ident (item.Kernel kernel)) is refl refl refl refl
  names_changed ident (item.Space space) is = same_by (with_item old ident (item.Space space)) is refl refl refl refl
  names_changed ident (item.Thread thread) is = same_by (with_item old ident (item.Thread thread)) is refl refl refl refl
  names_changed ident (item.Mapping row) is = same_by (with_item old ident (item.Mapping row)) is refl refl refl refl

  pub names_loading : (n : Name) (ident : Ident) → IsLoadingOf old new n ident → HasSameNames old new
  names_loading (name.Kernel number) ident moving = same_by (record old { kernels = new.kernels; issued = new.issued; spare = new.spare }) moving.1 refl refl refl refl
  names_loading (name.Space number) ident moving = same_by (record old { spaces = new.spaces; issued = new.issued; spare = new.spare }) moving.1 refl refl refl refl
  names_loading (name.Thread number) ident moving = same_by (record old { threads = new.threads; issued = new.issued; spare = new.spare }) moving.1 refl refl refl refl
  names_loading (name.Mapping space vpn) ident moving = same_by (record old { rows = record old.rows { kept = new.rows.kept }; issued = new.issued; spare = new.spare }) moving.1 refl refl refl refl

  names_leaving_in : (of : Kind) (ident : Ident) (owner : KernelNo) → IsLeavingIn of old new ident owner → HasSameNames old new
  names_leaving_in kind.Kernel ident owner moving = same_by (record old { kernels = new.kernels; issued = new.issued }) moving.1 refl refl refl refl
  names_leaving_in kind.Space ident owner moving = same_by (record old { spaces = new.spaces; issued = new.issued }) moving.1 refl refl refl refl
  names_leaving_in kind.Thread ident owner moving = same_by (record old { threads = new.threads; issued = new.issued }) moving.1 refl refl refl refl
  names_leaving_in kind.Mapping ident owner moving = same_by (record old { rows = record old.rows { kept = new.rows.kept }; issued = new.issued }) moving.1 refl refl refl refl

  pub names_leaving : (ident : Ident) (owner : KernelNo) → IsLeavingOf old new ident owner → HasSameNames old new
  names_leaving ident owner moving = names_leaving_in ident.kind ident owner moving

  names_locking_in : (of : Kind) (ident : Ident) (on : Bool) → new ≡ relocked_in of old ident on → HasSameNames old new
  names_locking_in kind.Kernel ident on is = same_by (relocked_in kind.Kernel old ident on) is refl refl refl refl
  names_locking_in kind.Space ident on is = same_by (relocked_in kind.Space old ident on) is refl refl refl refl
  names_locking_in kind.Thread ident on is = same_by (relocked_in kind.Thread old ident on) is refl refl refl refl
  names_locking_in kind.Mapping ident on is = same_by (relocked_in kind.Mapping old ident on) is refl refl refl refl

  pub names_locking : (ident : Ident) (on : Bool) → new ≡ relocked old ident on → HasSameNames old new
  names_locking ident on is = names_locking_in ident.kind ident on is

  -- what is loaded, displaced or locked shows what it showed
  pub alike_loading : (n : Name) (ident : Ident) → KeepsContents old new → IsLoadingOf old new n ident → ShowsAlike old new
  alike_loading n ident keeps moving = alike_kept old new keeps (names_loading n ident moving)

  pub alike_leaving : (ident : Ident) (owner : KernelNo) → KeepsContents old new → IsLeavingOf old new ident owner → ShowsAlike old new
  alike_leaving ident owner keeps moving = alike_kept old new keeps (names_leaving ident owner moving)

  pub alike_locking : (ident : Ident) (on : Bool) → KeepsContents old new → new ≡ relocked old ident on → ShowsAlike old new
  alike_locking ident on keeps is = alike_kept old new keeps (names_locking ident on is)

  -- and so do contents with more room
  pub alike_spare : new ≡ record old { spare = new.spare } → ShowsAlike old new
  alike_spare is = alike_kept old new (subst (KeepsContents old) (sym is) same) (same_by (record old { spare = new.spare }) is refl refl refl refl)
    where
      same : KeepsContents old (record old { spare = new.spare })
      same (name.Kernel number) = refl
      same (name.Space number) = refl
      same (name.Thread number) = refl
      same (name.Mapping space vpn) = refl

  abbrev roomy : Contents
  roomy = record old {
    kernels = record old.kernels { room = new.kernels.room };
    spaces = record old.spaces { room = new.spaces.room };
    threads = record old.threads { room = new.threads.room };
    rows = record old.rows { kept = record old.rows.kept { room = new.rows.kept.room }; room = new.rows.room };
  }

  keeps_roomy : KeepsContents old roomy
  unfolding stored.content_of
  keeps_roomy (name.Kernel number) = refl
  keeps_roomy (name.Space number) = refl
  keeps_roomy (name.Thread number) = refl
  keeps_roomy (name.Mapping space vpn) = refl

  pub alike_room : OnlyMakesRoom old new → ShowsAlike old new
  alike_room more = alike_kept old new (subst (KeepsContents old) (sym more.is) keeps_roomy) (same_by roomy more.is refl refl refl refl)

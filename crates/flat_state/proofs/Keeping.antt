-- A store keeps all but the pages of its space.
use Rattle.std.proofs.Common.{◌≡◌, ℕ, ◌+◌, ◌*◌, ◌≤◌, Bool, true, List, length, map, Option, Some, refl, sym, ◌∙◌, ap, inl, inr}
use Rattle.std.proofs.Math.Path.{fun_ext}
use Rattle.std.proofs.lemmas.Bool.{cases_Bool, false≢true}
use Rattle.cache_ident.specs.declared.names.Frame.{Frame}
use Rattle.cache_ident.specs.declared.names.SpaceNo.{SpaceNo}
use Rattle.phys_groups.specs.declared.rows.Row.{Row}
use Rattle.rv32_exec.specs.Pages.{put_bytes}
use Rattle.flat_state.specs.Rest.{is_mapped, rest_of, unmapped_page, unmarked}
use Rattle.flat_state.proofs.Storing.{length-put_bytes, page_at-put_bytes_other}

unmapped-stays : (rows : List Row) (space : SpaceNo) (n : ℕ) (m : List ℕ) (f : Frame) (o v : ℕ) → o + n ≤ 4096 → is_mapped rows space f ≡ true → (g : Frame) → unmapped_page (put_bytes n m (4096 * f.0 + o) v) rows space g ≡ unmapped_page m rows space g
unmapped-stays rows space n m f o v within mapped g = elim (cases_Bool (is_mapped rows space g)) [
  | inl inside ↦ rw inside refl
  | inr beside ↦ rw beside (ap Some (page_at-put_bytes_other n m f g o v within (λ same. false≢true (sym beside ∙ ap (λ (k : ℕ). is_mapped rows space (record { 0 = k })) same ∙ mapped))))
]

pub rest-put_bytes : (rights : List (Bool × Bool)) (rows : List Row) (space : SpaceNo) (n : ℕ) (m : List ℕ) (f : Frame) (o v : ℕ) → o + n ≤ 4096 → is_mapped rows space f ≡ true → rest_of rights (put_bytes n m (4096 * f.0 + o) v) rows space ≡ rest_of rights m rows space
rest-put_bytes rights rows space n m f o v within mapped =
    ap (λ (k : ℕ). record { rights = rights; space = space; rows = map (unmarked space) rows; size = k; frames = unmapped_page (put_bytes n m (4096 * f.0 + o) v) rows space }) (length-put_bytes n m (4096 * f.0 + o) v)
    ∙ ap (λ (frames : Frame → Option (List ℕ)). record { rights = rights; space = space; rows = map (unmarked space) rows; size = length m; frames = frames }) (fun_ext (unmapped-stays rows space n m f o v within mapped))

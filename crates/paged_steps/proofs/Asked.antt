-- Which pages are asked for before the first step: that of the fetch, and that of the one address of the step.
use Rattle.std.proofs.Common.{◌≡◌, ℕ, ◌/◌, ◌%◌, ◌≤◌, Bool, true, false, ◌&&◌, List, [], ◌∷◌, ◌++◌, length, Contains, Option, Some, None, refl, ap, sym, ◌∙◌, subst, ◌⊎◌, inl, inr, arith}
use Rattle.std.specs.Prelude.{◌==◌, if◌then◌else◌, find, is_some, nat_lt, not}
use Rattle.std.specs.Option.{option_map, option_and_then}
use Rattle.std.proofs.lemmas.Bool.{eqb-true, eq-eqb, ltb-false}
use Rattle.std.proofs.lemmas.List.{map-append}
use Rattle.cache_ident.specs.declared.names.Vpn.{Vpn}
use Rattle.phys_groups.specs.declared.rows.Row.{Row}
use Rattle.phys_groups.specs.Translation.{is_fit, row_of, through}
use Rattle.rv32_isa.specs.Table.{instruction_of}
use Rattle.rv32_exec.specs.declared.actions.Action.{Action}
use Rattle.rv32_exec.specs.declared.contexts.Context.{Context}
use Rattle.rv32_exec.specs.declared.statuses.Access.{Access}
use Rattle.rv32_exec.specs.declared.statuses.Access.TheVariants.{Fetch}
use Rattle.rv32_exec.specs.declared.spaces.Width.TheVariants.{Word}
use Rattle.rv32_exec.specs.declared.steps.Stepped.TheVariants as steps
use Rattle.rv32_exec.specs.Actions.{action_of}
use Rattle.rv32_exec.specs.Pages.{fetched, number_at, read_through, translation, where_allowed, Page}
use Rattle.flat_state.specs.declared.records.FlatThread.{FlatThread}
use Rattle.flat_state.specs.State.{FlatState}
use Rattle.flat_state.specs.Signals.{next_action}
use Rattle.flat_state.specs.Translation.{reached, rights_of, wants}
use Rattle.quantum.specs.page_views.specs.Views.{can_fill, is_of_page, page_of, pages_of_views, view_through, where_flagged, View}
use Rattle.quantum.specs.declared.paused.Paused.{Paused}
use Rattle.quantum.specs.Ahead.{more_with, outcome, Ahead, IsRun}
use Rattle.ahead_laws.specs.Addresses.{address_of}
use Rattle.ahead_laws.proofs.Missed.{missed_own, missed_unseen}
use Rattle.flat_state.proofs.Finding.{find-contains, find-passes}
use Rattle.paged_steps.specs.Aheads.{IsOfRow}
use Rattle.paged_steps.proofs.Aheads.{no_step, reached_row}

-- what is found stays the first where more comes behind
find_more : {X : Type 0} (p : X → Bool) (xs ys : List X) (x : X) → find p xs ≡ Some x → find p (xs ++ ys) ≡ Some x
find_more p [] ys x e = absurd (cc)
find_more p (y ∷ xs) ys x e = by (p y) (λ later. find_more p xs ys x later) e
  where
    by : (b : Bool) → (find p xs ≡ Some x → find p (xs ++ ys) ≡ Some x) → (if b then Some y else find p xs) ≡ Some x → (if b then Some y else find p (xs ++ ys)) ≡ Some x
    by true more e = e
    by false more e = more e

translation_more : (ps qs : List Page) (va : ℕ) (p : Page) → translation ps va Fetch ≡ Some p → translation (ps ++ qs) va Fetch ≡ Some p
unfolding translation
translation_more ps qs va p e = by (find (λ (q : Page). q.number == va / 4096) ps) refl e
  where
    by : (o : Option Page) → find (λ (q : Page). q.number == va / 4096) ps ≡ o → where_allowed Fetch o ≡ Some p → where_allowed Fetch (find (λ (q : Page). q.number == va / 4096) (ps ++ qs)) ≡ Some p
    by None found e = absurd (cc)
    by (Some q) found e = ap (where_allowed Fetch) (find_more (λ (q : Page). q.number == va / 4096) ps qs q found) ∙ e

fetched_more : (ps qs : List Page) (va word : ℕ) → fetched ps va ≡ Some word → fetched (ps ++ qs) va ≡ Some word
unfolding read_through
fetched_more ps qs va word e = by (translation ps va Fetch) refl e
  where
    by : (o : Option Page) → translation ps va Fetch ≡ o → option_map (λ (p : Page). number_at Word p.bytes (va % 4096)) o ≡ Some word → option_map (λ (p : Page). number_at Word p.bytes (va % 4096)) (translation (ps ++ qs) va Fetch) ≡ Some word
    by None found e = absurd (cc)
    by (Some p) found e = ap (option_map (λ (p : Page). number_at Word p.bytes (va % 4096))) (translation_more ps qs va p found) ∙ e

-- the next action stays where more pages come behind
action_more : (c : Context) (ps qs : List Page) (action : Action) → next_action c ps ≡ Some action → next_action c (ps ++ qs) ≡ Some action
unfolding next_action
action_more c ps qs action e = by (fetched ps c.pc) refl e
  where
    by : (o : Option ℕ) → fetched ps c.pc ≡ o → option_and_then (λ word. option_map (λ instr. action_of instr c) (instruction_of word)) o ≡ Some action
        → option_and_then (λ word. option_map (λ instr. action_of instr c) (instruction_of word)) (fetched (ps ++ qs) c.pc) ≡ Some action
    by None found e = absurd (cc)
    by (Some word) found e = ap (option_and_then (λ word. option_map (λ instr. action_of instr c) (instruction_of word))) (fetched_more ps qs c.pc word found) ∙ e

address_more : (c : Context) (ps qs : List Page) (va : ℕ) → address_of (next_action c ps) ≡ Some va → address_of (next_action c (ps ++ qs)) ≡ Some va
address_more c ps qs va e = by (next_action c ps) refl e
  where
    by : (o : Option Action) → next_action c ps ≡ o → address_of o ≡ Some va → address_of (next_action c (ps ++ qs)) ≡ Some va
    by None is e = absurd (cc)
    by (Some action) is e = ap address_of (action_more c ps qs action is) ∙ e

-- the page of the address that the next step asks for
abbrev pub AsksFor : Ahead → ℕ → Type 0
AsksFor a vpn = (va : ℕ) × (address_of (next_action a.context (pages_of_views a.views)) ≡ Some va) × (va / 4096 ≡ vpn)

-- there is no view, that of the fetch, or also that of the address
abbrev pub IsAskedSo : Ahead → Type 0
IsAskedSo a =
    (a.views ≡ [])
    ⊎ (((v : View) × (a.views ≡ v ∷ []) × (v.vpn.0 ≡ a.context.pc / 4096))
    ⊎ ((v : View) × (w : View) × (a.views ≡ v ∷ w ∷ []) × (v.vpn.0 ≡ a.context.pc / 4096) × AsksFor a w.vpn.0))

-- .. and so it is still where no step was taken
pub asked_then : (limit : ℕ) (a b : Ahead) (p : Paused) → IsRun limit a b p → (a.steps ≡ 0 → IsAskedSo a) → b.steps ≡ 0 → IsAskedSo b
asked_then limit a b p run asked none = let so = no_step limit a b p run none in subst IsAskedSo (sym so.1) (asked so.0)

-- nothing is asked for without a fetch
nothing_asked : (c : Context) → next_action c [] ≡ None
unfolding next_action read_through translation
nothing_asked c = refl

-- a view of the page is found, where there is one in the first or the second place
found_first : (v : View) (vs : List View) (vpn : Vpn) → v.vpn.0 ≡ vpn.0 → find (is_of_page vpn) (v ∷ vs) ≡ Some v
found_first v vs vpn e = ap (λ (b : Bool). if b then Some v else find (is_of_page vpn) vs) (eq-eqb v.vpn.0 vpn.0 e)

found_second : (v w : View) (vpn : Vpn) → w.vpn.0 ≡ vpn.0 → is_some (find (is_of_page vpn) (v ∷ w ∷ [])) ≡ true
found_second v w vpn e = by (v.vpn.0 == vpn.0)
  where
    by : (b : Bool) → is_some (if b then Some v else find (is_of_page vpn) (w ∷ [])) ≡ true
    by true = refl
    by false = ap is_some (found_first w [] vpn e)

module _ (tables : FlatState) (t : FlatThread) (a : Ahead) (row : Row) (access : Access) (va : ℕ) (missed : (outcome a).answer ≡ steps.Miss va access) (of_page : row.vpn.0 ≡ va / 4096) where
  -- what is asked for is the fetch or the address
  own : (a.context.pc / 4096 ≡ row.vpn.0) ⊎ AsksFor a row.vpn.0
  own = elim (missed_own a.context (pages_of_views a.views) va access missed) [
    | inl fetch ↦ inl (ap (λ (n : ℕ). n / 4096) (sym fetch) ∙ sym of_page)
    | inr asks ↦ inr (va, asks, sym of_page)
  ]

  asks_nothing : a.views ≡ [] → AsksFor a row.vpn.0 → ⊥
  asks_nothing none asks =
      let nothing : next_action a.context (pages_of_views a.views) ≡ None = ap (λ (vs : List View). next_action a.context (pages_of_views vs)) none ∙ nothing_asked a.context in
      let e : address_of None ≡ Some asks.0 = ap address_of (sym nothing) ∙ asks.1 in
      cc

  -- .. so before the first step a view of its page stands already where there are two
  seen_already : IsAskedSo a → 2 ≤ length a.views → is_some (find (is_of_page row.vpn) a.views) ≡ true
  seen_already (inl none) two = absurd (omega (arith, two, ap length none))
  seen_already (inr (inl one)) two = absurd (omega (arith, two, ap length one.1))
  seen_already (inr (inr both)) two = elim own [
    | inl fetch ↦ ap (λ (vs : List View). is_some (find (is_of_page row.vpn) vs)) both.2 ∙ ap is_some (found_first both.0 (both.1 ∷ []) row.vpn (both.3 ∙ fetch))
    | inr asks ↦
        let same : asks.0 ≡ both.4.0 = let x = asks.1 in let y = both.4.1 in cc in
        ap (λ (vs : List View). is_some (find (is_of_page row.vpn) vs)) both.2
        ∙ found_second both.0 both.1 row.vpn (sym both.4.2 ∙ ap (λ (n : ℕ). n / 4096) (sym same) ∙ asks.2)
  ]

  -- the view of its page would let it through
  pub no_view : ((v : View) → Contains a.views v → IsOfRow tables t.space v) → reached tables access t.space va ≡ through row → is_some (find (is_of_page row.vpn) a.views) ≡ true → ⊥
  no_view rows reaches seen = by (find (is_of_page row.vpn) a.views) refl seen
    where
      parts : (row_of tables.rows t.space (va / 4096) ≡ Some row) × (wants access row.flags ≡ true) × (is_fit (rights_of tables t.space) row ≡ true)
      parts = reached_row tables access t.space va row reaches

      of : (v : View) → find (is_of_page row.vpn) a.views ≡ Some v → ⊥
      of v found =
          let its = rows v (find-contains (is_of_page row.vpn) a.views v found) in
          let page : v.vpn.0 ≡ row.vpn.0 = eqb-true v.vpn.0 row.vpn.0 (find-passes (is_of_page row.vpn) a.views v found) in
          let same : its.row ≡ row = let e = sym its.its ∙ ap (row_of tables.rows t.space) (page ∙ of_page) ∙ parts.0 in cc in
          let wanted : wants access v.flags ≡ true = ap (wants access) (sym its.flags) ∙ ap (λ (r : Row). wants access r.flags) same ∙ parts.1 in
          let lets : view_through a.views access va ≡ Some v =
          ap (λ (n : ℕ). where_flagged access (find (is_of_page (record { 0 = n })) a.views)) (sym of_page) ∙ ap (where_flagged access) found ∙ ap (λ (b : Bool). if b then Some v else None) wanted in
          let unseen = missed_unseen a.context a.views va access missed in
          cc

      by : (o : Option View) → find (is_of_page row.vpn) a.views ≡ o → is_some o ≡ true → ⊥
      by None found e = cc
      by (Some v) found e = of v found

  -- before the first step there is room for it
  pub has_room : IsAskedSo a → 2 ≤ a.most → can_fill a.most a.views row.vpn ≡ false → is_some (find (is_of_page row.vpn) a.views) ≡ true
  has_room asked room full = by (nat_lt (length a.views) a.most) refl (is_some (find (is_of_page row.vpn) a.views)) refl full
    where
      by : (b : Bool) → nat_lt (length a.views) a.most ≡ b → (d : Bool) → is_some (find (is_of_page row.vpn) a.views) ≡ d → (b && not d) ≡ false → is_some (find (is_of_page row.vpn) a.views) ≡ true
      by b low true seen e = seen
      by true low false seen e = absurd (cc)
      by false high false seen e = seen_already asked (let h = ltb-false (length a.views) a.most high in omega (arith, h))

  -- and then the page is asked for
  pub asked_more : IsAskedSo a → can_fill a.most a.views row.vpn ≡ true → (v : View) → v.vpn ≡ row.vpn → IsAskedSo (more_with v a)
  asked_more asked room v of = by asked
    where
      unseen : is_some (find (is_of_page row.vpn) a.views) ≡ false
      unseen = by (nat_lt (length a.views) a.most) (is_some (find (is_of_page row.vpn) a.views)) room
        where
          by : (b d : Bool) → (b && not d) ≡ true → d ≡ false
          by true true e = absurd (cc)
          by true false e = refl
          by false d e = absurd (cc)

      asks_then : AsksFor a row.vpn.0 → AsksFor (more_with v a) v.vpn.0
      asks_then asks = (
        asks.0,
        ap (λ (ps : List Page). address_of (next_action a.context ps)) (map-append page_of a.views (v ∷ [])) ∙ address_more a.context (pages_of_views a.views) (page_of v ∷ []) asks.0 asks.1,
        asks.2 ∙ ap (λ (n : Vpn). n.0) (sym of),
      )

      by : IsAskedSo a → IsAskedSo (more_with v a)
      by (inl none) = inr (inl (
        v,
        ap (λ (vs : List View). vs ++ v ∷ []) none,
        elim own [
          | inl fetch ↦ ap (λ (n : Vpn). n.0) of ∙ sym fetch
          | inr asks ↦ absurd (asks_nothing none asks)
        ],
      ))
      by (inr (inl one)) = inr (inr (
        one.0,
        v,
        ap (λ (vs : List View). vs ++ v ∷ []) one.1,
        one.2,
        elim own [
          | inl fetch ↦ absurd (let seen = ap (λ (vs : List View). is_some (find (is_of_page row.vpn) vs)) one.1 ∙ ap is_some (found_first one.0 [] row.vpn (one.2 ∙ fetch)) in let e = sym seen ∙ unseen in cc)
          | inr asks ↦ asks_then asks
        ],
      ))
      by (inr (inr both)) = absurd (elim own [
        | inl fetch ↦ let seen = ap (λ (vs : List View). is_some (find (is_of_page row.vpn) vs)) both.2 ∙ ap is_some (found_first both.0 (both.1 ∷ []) row.vpn (both.3 ∙ fetch)) in let e = sym seen ∙ unseen in cc
        | inr asks ↦
            let same : asks.0 ≡ both.4.0 = let x = asks.1 in let y = both.4.1 in cc in
            let seen = ap (λ (vs : List View). is_some (find (is_of_page row.vpn) vs)) both.2 ∙ found_second both.0 both.1 row.vpn (sym both.4.2 ∙ ap (λ (n : ℕ). n / 4096) (sym same) ∙ asks.2) in
            let e = sym seen ∙ unseen in cc
      ])

-- What is left where threads come away from their processors, one after another.
use Rattle.std.proofs.Common.{◌≡◌, ℕ, ◌+◌, ◌<◌, List, [], ◌∷◌, ◌++◌, Contains, None, IsSome, length, map, get_or, take, sym, ◌∙◌, ap, subst, inl, inr}
use Rattle.std.proofs.lemmas.List.Elements.{Contains-append_left, Contains-append_right, Contains-push_cases}
use Rattle.std.proofs.lemmas.List.{map-append, take_more}
use Rattle.std.proofs.lemmas.Option.{slice_get-get_or}
use Rattle.cache_ident.specs.declared.names.Name.{Name}
use Rattle.cache_ident.specs.declared.names.Name.TheVariants as name
use Rattle.cache_ident.specs.declared.names.ThreadNo.{ThreadNo}
use Rattle.board_laws.specs.flat_laws.proofs.Members.{contains_nothing, Contains-cases, Contains-here}
use Rattle.flat_state.proofs.Places.{Contains-from_get}
use Rattle.thread_sets.specs.kind_store.proofs.ContentLemmas.{cases_name}
use Rattle.board_laws.specs.desc_stores.specs.Contents.{content_of}
use Rattle.board_laws.specs.desc_tables.specs.Tables.{Held}
use Rattle.cached_machine.specs.declared.posts.Post.TheVariants.{In}
use Rattle.cached_machine.specs.Posts.{mark_in, AreBackFrom, IsPosted}
use Rattle.cached_machine.proofs.PostLaws.{here_after, in_lasts, only_onward, others_after, stand_after}

only_one : (a b : Name) → Contains (a ∷ []) b → a ≡ b
only_one a b among = elim (Contains-cases a [] b among) [ inl same ↦ same | inr behind ↦ absurd (contains_nothing b behind) ]

-- a thread left
pub one_back : (h h' : Held) (whom : ThreadNo) → IsPosted In h h' whom → AreBackFrom (name.Thread whom ∷ []) h h'
one_back h h' whom is = record {
  only = is.only;
  back = λ other among. subst (λ (n : Name). mark_in (content_of h'.contents n) ≡ None) (only_one (name.Thread whom) (name.Thread other) among) (ap mark_in (here_after In h h' whom is));
  others = λ other. elim (cases_name (name.Thread whom) (name.Thread other)) [
    | inl same ↦ inl (subst (Contains (name.Thread whom ∷ [])) same (Contains-here (name.Thread whom) []))
    | inr apart ↦ inr (ap mark_in (others_after In h h' whom is (name.Thread other) apart))
  ];
  lasts = in_lasts h h' whom is;
  stand = stand_after In h h' whom is;
}

-- one more
more_back : (names : List Name) (n : Name) (a b c : Held) → AreBackFrom names a b → AreBackFrom (n ∷ []) b c → AreBackFrom (names ++ n ∷ []) a c
more_back names n a b c first second = record {
  only = only_onward a b c first.only second.only;
  back = λ whom among. elim (second.others whom) [
    | inl now ↦ second.back whom now
    | inr same ↦ elim (Contains-push_cases names n (name.Thread whom) among) [
      | inl before ↦ same ∙ first.back whom before
      | inr is ↦ second.back whom (subst (Contains (n ∷ [])) is (Contains-here n []))
    ]
  ];
  others = λ whom. elim (second.others whom) [
    | inl now ↦ inl (Contains-append_right names (n ∷ []) (name.Thread whom) now)
    | inr same ↦ elim (first.others whom) [
      | inl before ↦ inl (Contains-append_left names (n ∷ []) (name.Thread whom) before)
      | inr was ↦ inr (same ∙ was)
    ]
  ];
  lasts = λ whom. second.lasts whom ∙ first.lasts whom;
  stand = λ whom stood. second.stand whom (first.stand whom stood);
}

-- ---- by names

module _ (left xs : List Name) (i : ℕ) (d : Name) (a b : Held) (same : xs ≡ left) (low : i < length xs) (before : AreBackFrom (take i left) a b) where
  -- the next one stands, if it is a thread
  pub next_stands : ((whom : ThreadNo) → Contains left (name.Thread whom) → IsSome (content_of a.contents (name.Thread whom))) → (whom : ThreadNo) → get_or xs i d ≡ name.Thread whom → IsSome (content_of b.contents (name.Thread whom))
  next_stands stands whom is =
      let among = subst (λ (all : List Name). Contains all (get_or xs i d)) same (Contains-from_get xs i (get_or xs i d) (slice_get-get_or xs i d low)) in
      before.stand whom (stands whom (subst (Contains left) is among))

  -- and comes away
  pub next_back : (c : Held) → AreBackFrom (get_or xs i d ∷ []) b c → AreBackFrom (take (i + 1) left) a c
  next_back c now =
      let split : take (i + 1) left ≡ take i left ++ get_or left i d ∷ [] = take_more left i d (subst (λ (all : List Name). i < length all) same low) in
      subst (λ (all : List Name). AreBackFrom all a c) (sym split)
      (more_back (take i left) (get_or left i d) a b c before (subst (λ (all : List Name). AreBackFrom (get_or all i d ∷ []) b c) same now))

-- ---- by numbers

-- the next one comes away
pub next_no_back : (nos : List ThreadNo) (i : ℕ) (d : ThreadNo) (a b c : Held) → i < length nos → AreBackFrom (map name.Thread (take i nos)) a b → IsPosted In b c (get_or nos i d) → AreBackFrom (map name.Thread (take (i + 1) nos)) a c
next_no_back nos i d a b c low before now =
    let split = ap (map name.Thread) (take_more nos i d low) ∙ map-append name.Thread (take i nos) (get_or nos i d ∷ []) in
    subst (λ (all : List Name). AreBackFrom all a c) (sym split)
    (more_back (map name.Thread (take i nos)) (name.Thread (get_or nos i d)) a b c before (one_back b c (get_or nos i d) now))

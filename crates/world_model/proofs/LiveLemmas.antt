-- Live fronts where queries change, and what depends on them.
use Rattle.std.proofs.Common.{◌≡◌, ℕ, List, [], ◌∷◌, ◌++◌, take, refl, sym, ap, ◌∙◌, subst, inl, inr}
use Rattle.std.specs.Prelude.{◌⊎◌, ◌==◌, Option, Some, None, slice_get, slice_set}
use Rattle.std.proofs.lemmas.Bool.{both_ways, cases_Bool, eqb-true, eq-eqb}
use Rattle.std.proofs.lemmas.Option.{none-some, same_Some}
use Rattle.hamming_model.specs.History.{JournalEntry}
use Rattle.commit_journal.specs.Fronts.{FrontState, IsFront, StandsAt, front_of}
use Rattle.commit_journal.specs.Journals.{IsKnown}
use Rattle.world_model.specs.WorldState.{WorldQuery, live_fronts, open_position}
use Rattle.world_model.specs.Sound.{KeepsOlder}
use Rattle.world_model.proofs.Lookups.{get_same, get_other, get_snoc}

-- a query that stands where it stood, with its front or without it
pub record Keeps (old new : WorldQuery) : Type 0 where
  pub stands : new.position ≡ old.position
  pub fronted : (new.front ≡ old.front) ⊎ (new.front ≡ None)

-- a position, where a front is open
abbrev where_open : ℕ → Option (List ℕ) → Option ℕ
where_open position None = None
where_open position (Some older) = Some position

-- the position of a query's front, where there is the query
abbrev front_of_some : Option WorldQuery → Option ℕ
front_of_some None = None
front_of_some (Some query) = open_position query

-- an open front stands at the query's position
open_is : (front : Option (List ℕ)) (position at : ℕ) → where_open position front ≡ Some at → at ≡ position
open_is None position at h = absurd (none-some at h)
open_is (Some older) position at h = sym (same_Some position at h)

-- the front of a query that is open is live
pub live_of : (queries : List WorldQuery) (number : ℕ) (query : WorldQuery) (older : List ℕ) → slice_get queries number ≡ Some query
    → query.front ≡ Some older
    → StandsAt (live_fronts queries) query.position
live_of queries number query older there is_open = record {
  number = number;
  stands = ap front_of_some there
      ∙ ap (where_open query.position) is_open;
}

was_open : (old new : WorldQuery) (at : ℕ) → Keeps old new → open_position new ≡ Some at → open_position old ≡ Some at
was_open old new at keeps h = elim keeps.fronted [
  | inl same ↦ ap (where_open old.position) (sym same) ∙ ap (λ position. where_open position new.front) (sym keeps.stands) ∙ h
  | inr gone ↦ absurd (none-some at (sym (ap (where_open new.position) gone) ∙ h))
]

-- no front gets live where a query keeps its own or loses it
pub live_before : (queries : List WorldQuery) (number : ℕ) (old new : WorldQuery) → slice_get queries number ≡ Some old → Keeps old new → (at : ℕ)
    → StandsAt (live_fronts (slice_set queries number new)) at → StandsAt (live_fronts queries) at
live_before queries number old new there keeps at live = elim (cases_Bool (live.number == number)) [
  | inl this ↦
      (let e : live.number ≡ number = eqb-true live.number number this in
      let now : open_position new ≡ Some at =
      ap front_of_some (sym (get_same queries number old new there)) ∙ ap (live_fronts (slice_set queries number new)) (sym e) ∙ live.stands in
      record { number = number; stands = ap front_of_some there ∙ was_open old new at keeps now })
  | inr other ↦ record {
    number = live.number;
    stands = ap front_of_some (sym (get_other queries number live.number new
        (λ e. both_ways (live.number == number) other (eq-eqb live.number number e))))
        ∙ live.stands;
  }
]

-- one query more has its own front
pub live_or_new : (queries : List WorldQuery) (new : WorldQuery) (at : ℕ) → StandsAt (live_fronts (queries ++ new ∷ [])) at
    → StandsAt (live_fronts queries) at
    ⊎ (at ≡ new.position)
live_or_new queries new at live = by_query (slice_get (queries ++ new ∷ []) live.number) refl live.stands
  where
    by_query : (o : Option WorldQuery) → slice_get (queries ++ new ∷ []) live.number ≡ o → front_of_some o ≡ Some at
        → StandsAt (live_fronts queries) at
        ⊎ (at ≡ new.position)
    by_query None e h = absurd (none-some at h)
    by_query (Some query) e h = elim (get_snoc queries live.number new query e) [
      | inl both ↦ inr (open_is new.front new.position at (ap open_position (sym both.1) ∙ h))
      | inr before ↦ inl (record { number = live.number; stands = ap front_of_some before ∙ h })
    ]

-- a front is known as well where fewer are live
pub known_with_fewer : (live fewer : ℕ → Option ℕ) (history : List JournalEntry) (front : FrontState)
    → ((at : ℕ) → StandsAt fewer at → StandsAt live at)
    → IsKnown live history front → IsKnown fewer history front
known_with_fewer live fewer history front back known = record {
  begins = known.begins;
  within = known.within;
  older = λ at stands below. known.older at (back at stands) below;
}

-- an open front keeps its rule where fewer are live
pub older_with_fewer : (history : List JournalEntry) (queries fewer : List WorldQuery) (query : WorldQuery) (older : List ℕ)
    → ((at : ℕ) → StandsAt (live_fronts fewer) at → StandsAt (live_fronts queries) at) → KeepsOlder history queries query older
    → KeepsOlder history fewer query older
older_with_fewer history queries fewer query older back is = record {
  front = is.front;
  known = known_with_fewer (live_fronts queries) (live_fronts fewer) history _ back is.known;
}

-- and where its query stands where another did
pub older_moved : (history : List JournalEntry) (queries : List WorldQuery) (old new : WorldQuery) (older : List ℕ) → new.position ≡ old.position
    → KeepsOlder history queries old older → KeepsOlder history queries new older
older_moved history queries old new older same is = record {
  front = subst (λ at. IsFront (front_of 0 0 older (take at history))) (sym same) is.front;
  known = subst (λ at. IsKnown (live_fronts queries) history (front_of 0 0 older (take at history))) (sym same) is.known;
}

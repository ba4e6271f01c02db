-- The worked list of events is a run: every position, refusal and kept version by computation.
use Rattle.std.proofs.Common.{◌≡◌, ℕ, zero, suc, ◌<◌, List, [], ◌∷◌, map, refl, ap, arith, true, inl, inr}
use Rattle.std.specs.Prelude.{◌↔◌, ◌==◌, Some, None}
use Rattle.std.proofs.lemmas.Bool.{eqb-true, eq-eqb, or_cases, or_left}
use Rattle.std.proofs.lemmas.Option.{none-some, same_Some}
use Rattle.commit_journal.specs.Fronts.{StandsAt, has_position}
use Rattle.hamming_model.specs.Scan.{Range}
use Rattle.entry_log.specs.declared.decision.Decision.TheVariants.{Added}
use Rattle.world_model.specs.QuerySteps.{ListsOlder}
use Rattle.world_model.specs.Runs.{IsRun}
use Rattle.world_model.specs.Worked.{EndsSwapped, halves, worked, worked_setting, zeros}
use Rattle.world_model.specs.WorldState.{WorldQuery, WorldState, fresh_query, live_fronts, new_world}

-- no front is live before the first query
none_older : ListsOlder (live_fronts []) 1 []
none_older = record {
  ascending = tt;
  lists = λ other. ((λ listed. cc), (λ both. absurd (none-some other both.1.stands)));
}

-- the queries after the first was opened
abbrev opened : List WorldQuery
opened = fresh_query worked_setting (Range 8 zeros) 1 [] ∷ []

-- its front is the only one that is live before the second
one_older : ListsOlder (live_fronts opened) 2 (1 ∷ [])
one_older = record {
  ascending = (tt, tt);
  lists = λ other. (to other, back other);
}
  where
    to : (other : ℕ) → has_position (1 ∷ []) other ≡ true → (other < 2) × StandsAt (live_fronts opened) other
    to other listed = elim (or_cases (1 == other) (has_position [] other) listed) [
      | inl this ↦ (omega (arith, eqb-true 1 other this), record { number = 0; stands = ap Some (eqb-true 1 other this) })
      | inr none ↦ absurd (cc)
    ]

    at_number : (number other : ℕ) → live_fronts opened number ≡ Some other → has_position (1 ∷ []) other ≡ true
    at_number zero other stands = or_left (1 == other) (has_position [] other) (eq-eqb 1 other (same_Some 1 other stands))
    at_number (suc number) other stands = absurd (none-some other stands)

    back : (other : ℕ) → (other < 2) × StandsAt (live_fronts opened) other → has_position (1 ∷ []) other ≡ true
    back other both = at_number both.1.number other both.1.stands

-- the worked list is a run
pub worked_is_run : (t : WorldState)
    × IsRun worked_setting (new_world worked_setting halves) (map (λ each. each.0) worked) (map (λ each. each.1) worked) t
    × EndsSwapped t
worked_is_run = (
  _,
  (
    _,
    (refl, record { decided = record { decision = Added; position = 1 }; decision = refl; after = refl; position = refl; said_is = refl }),
    (
      _,
      (refl, record { older = []; lists = none_older; after = refl; said_is = refl }),
      (
        _,
        (
          refl,
          record {
            after = _;
            advances = record {
              query = _;
              older = _;
              fronted = record { is_query = refl; is_open = refl };
              before = _;
              is_place = refl;
              after_is = refl;
              advanced_is = refl;
            };
            said_is = refl;
          },
        ),
        (
          _,
          (refl, record { place = _; is_place = refl; after = refl; said_is = refl }),
          (
            _,
            inl (refl, refl),
            (
              _,
              (refl, record { decided = record { decision = Added; position = 2 }; decision = refl; after = refl; position = refl; said_is = refl }),
              (
                _,
                (refl, record { older = 1 ∷ []; lists = one_older; after = refl; said_is = refl }),
                (
                  _,
                  (refl, record { place = _; build = _; has = record { is_place = refl; is_build = refl }; after = refl; said_is = refl }),
                  (
                    _,
                    (refl, record { place = _; build = _; has = record { is_place = refl; is_build = refl }; after = refl; said_is = refl }),
                    (
                      _,
                      inl (refl, refl),
                      (
                        _,
                        (
                          refl,
                          record {
                            after = _;
                            advances = record {
                              query = _;
                              older = _;
                              fronted = record { is_query = refl; is_open = refl };
                              before = _;
                              is_place = refl;
                              after_is = refl;
                              advanced_is = refl;
                            };
                            said_is = refl;
                          },
                        ),
                        (
                          _,
                          (refl, record { place = _; build = _; has = record { is_place = refl; is_build = refl }; after = refl; said_is = refl }),
                          (
                            _,
                            (refl, record { query = _; is_query = refl; after = refl; said_is = refl }),
                            (
                              _,
                              inl (refl, refl),
                              refl,
                            ),
                          ),
                        ),
                      ),
                    ),
                  ),
                ),
              ),
            ),
          ),
        ),
      ),
    ),
  ),
  record { place = _; is_place = refl; layout = refl; rows = refl; kept = refl; kept_layout = refl },
)

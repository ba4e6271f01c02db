-- A source of a query is polled.
use Rattle.std.proofs.Common.{◌≡◌, ◌⊎◌, ℕ, zero, suc, ◌+◌, ◌<◌, ◌≤◌, ◌==◌, true, false, List, [], ◌∷◌}
use Rattle.std.proofs.Common.{length, take, Option, Some, None, refl, sym, ap, subst, ◌∙◌, arith, inl, inr, eq-eqb, eqb-true}
use Rattle.std.specs.Prelude.{IfSome, Ok, is_none, min, nat_le, slice_get, slice_index, slice_index_or, slice_set}
use Rattle.std.specs.List.{list_any, sum_by}
use Rattle.std.proofs.lemmas.Bool.{and_parts, both_ways, cases_Bool, ltb-true}
use Rattle.std.proofs.lemmas.List.{get_or-set_other, length-take}
use Rattle.std.proofs.lemmas.List.Sums.{sum_by-cons}
use Rattle.std.proofs.lemmas.Option.{get_or_from_slice_get, none-some, same_Some}
use Rattle.hamming_model.specs.History.{JournalEntry, rows_of}
use Rattle.hamming_model.specs.Scan.{Ask, Range, Near, answer, scan}
use Rattle.hamming_model.specs.declared.hit.Hit.{Hit}
use Rattle.hamming_model.specs.Stored.{AreCodes}
use Rattle.hamming_model.proofs.RowLemmas.{codes_of_history}
use Rattle.hamming_model.proofs.ShardLemmas.{near_has_all}
use Rattle.hit_source.specs.Moves.{Polls}
use Rattle.hit_source.specs.Sources.{Asked, IsLawful, Standing}
use Rattle.commit_journal.specs.Journals.{IsJournal, JournalState}
use Rattle.scatter_gather.specs.Due.{is_due}
use Rattle.scatter_gather.specs.Gathering.{Gathered, Gathering, answer_of, gathered, next_hit, source_of, sources_of}
use Rattle.scatter_gather.specs.Kept.{IsUpTo}
use Rattle.scatter_gather.specs.Moves.{distance_of}
use Rattle.scatter_gather.proofs.KeepLemmas.{one_polled}
use Rattle.world_model.specs.declared.refused.Refused.TheVariants.{Closed, NoQuery, NoShard, NotPinned}
use Rattle.world_model.specs.declared.told.Told.{Told}
use Rattle.world_model.specs.Answering.{HasGathering, PollsAt, PollsSource, next_distance, with_source}
use Rattle.world_model.specs.Asking.{asks_near, code_of, most_given}
use Rattle.world_model.specs.Events.{Poll, Setting}
use Rattle.world_model.specs.Ledgers.{reads_at, reads_on}
use Rattle.world_model.specs.Refusals.{cause, refusal}
use Rattle.world_model.specs.WorldState.{WorldQuery, WorldState, answer_on, unpinned, with_query}
use Rattle.world_model.specs.WorldStep.{WorldStep}
use Rattle.world_model.proofs.LedgerLemmas.{step_reads}
use Rattle.world_model.proofs.Lookups.{get_same}
use Rattle.world_model.proofs.StepLemmas.{stands_there, step_sound}
use Rattle.world_parts.specs.Gathers.{PollsDue, PollsHeld, PollsNone, with_gather}
use Rattle.gph_world.specs.Kept.{IsQueryHeld, KeepsWorld}
use Rattle.gph_world.specs.Rising.{RiseByReads}
use Rattle.world_parts.specs.Seen.{query_seen}
use Rattle.gph_world.specs.Seen.{setting_seen, state_seen}
use Rattle.world_parts.specs.Sources.{QuerySource, gathering_seen, question_asked, standing_told}
use Rattle.world_parts.specs.declared.held.Held.{Held}
use Rattle.world_parts.specs.declared.place.Place.{Place}
use Rattle.world_parts.proofs.ListLemmas.{at_within}
use Rattle.gph_world.proofs.GatherLemmas.{HaveFewRows, all_pinned, answered, any_missing, changed_is_held, first_dropped, given_is, has_gathering}
use Rattle.gph_world.proofs.GatherLemmas.{keeps_again, none_dropped, none_missing, number_is, query_keeps, seen_at, state_again, state_changed}
use Rattle.gph_world.proofs.HeldLemmas.{seen_there}
use Rattle.gph_world.proofs.RefusalLemmas.{cause_at, cause_if, cause_not, is_query, is_shard, no_query, refusal_by}

-- ---- why it may be refused
module _ (z : Setting) (s : WorldState) (number shard budget : ℕ) where
  pub poll_no_shard : cause (nat_le z.shards shard) NoShard ≡ Some NoShard → refusal z s (Poll number shard budget) ≡ Some NoShard
  poll_no_shard none = refusal_by z s (Poll number shard budget) _ _ _ _ _ _ _ _ _ _ none refl refl refl refl refl refl refl refl refl

  module _ (low : shard < z.shards) where
    pub poll_no_query : slice_get s.queries number ≡ None → refusal z s (Poll number shard budget) ≡ Some NoQuery
    poll_no_query none = refusal_by z s (Poll number shard budget) _ _ _ _ _ _ _ _ _ _ (is_shard z.shards shard low)
        (no_query (slice_get s.queries number) none) refl refl refl refl refl refl refl refl

    module _ (query : WorldQuery) (there : slice_get s.queries number ≡ Some query) where
      pub poll_closed : query.cancelled ≡ true → refusal z s (Poll number shard budget) ≡ Some Closed
      poll_closed was = refusal_by z s (Poll number shard budget) _ _ _ _ _ _ _ _ _ _ (is_shard z.shards shard low)
          (is_query (slice_get s.queries number) query there)
          (cause_at (slice_get s.queries number) query _ there ∙ cause_if query.cancelled Closed was) refl refl refl refl refl refl refl

      pub poll_not_pinned : query.cancelled ≡ false → 0 < unpinned query → refusal z s (Poll number shard budget) ≡ Some NotPinned
      poll_not_pinned goes_on some = refusal_by z s (Poll number shard budget) _ _ _ _ _ _ _ _ _ _ (is_shard z.shards shard low)
          (is_query (slice_get s.queries number) query there)
          (cause_at (slice_get s.queries number) query _ there ∙ cause_not query.cancelled Closed goes_on) refl refl
          (cause_at (slice_get s.queries number) query _ there ∙ cause_if (list_any is_none query.pinned) NotPinned (any_missing query.pinned some))
          refl refl refl refl

      pub may_poll : query.cancelled ≡ false → unpinned query ≡ 0 → refusal z s (Poll number shard budget) ≡ None
      may_poll goes_on all = refusal_by z s (Poll number shard budget) _ _ _ _ _ _ _ _ _ _ (is_shard z.shards shard low)
          (is_query (slice_get s.queries number) query there)
          (cause_at (slice_get s.queries number) query _ there ∙ cause_not query.cancelled Closed goes_on) refl refl
          (cause_at (slice_get s.queries number) query _ there ∙ cause_not (list_any is_none query.pinned) NotPinned (none_missing query.pinned all))
          refl refl refl refl

-- ---- the radius that a poll begins

-- a radius that was begun within the next hit's distance is at most that
up_to : (begun : Option ℕ) (most : ℕ) → IfSome begun (λ radius. IfSome (Some most) (λ far. radius ≤ far)) → IsUpTo begun (Some most)
up_to None most within = tt
up_to (Some radius) most within = within

-- a range begins none
range_begins : (begun last : Option ℕ) → begun ≡ None → IsUpTo begun last
range_begins None last none = tt
range_begins (Some radius) last none = absurd (none-some radius (sym none))

-- a near answer is as long as the limit
near_long : (bits : ℕ) (rows : List (ℕ × List ℕ)) (ask : Ask) → asks_near ask ≡ true → length (scan rows (code_of ask) bits) ≡ length rows
    → length (answer bits rows ask) ≡ most_given (length rows) ask
near_long bits rows (Range tau code) near all = absurd (both_ways false refl near)
near_long bits rows (Near count code) near all = length-take count (scan rows code bits) ∙ ap (min count) all

-- ---- ledgers

-- one query changes what is read
sum_changed : (f : WorldQuery → ℕ) (queries : List WorldQuery) (number : ℕ) (old new : WorldQuery) → slice_get queries number ≡ Some old
    → sum_by f (slice_set queries number new) + f old ≡ sum_by f queries + f new
sum_changed f [] number old new there = absurd (none-some old there)
sum_changed f (q ∷ queries) zero old new there =
    omega (arith, sum_by-cons f new queries, sum_by-cons f q queries, ap f (same_Some q old there))
sum_changed f (q ∷ queries) (suc number) old new there =
    omega (arith, sum_by-cons f q (slice_set queries number new), sum_by-cons f q queries, sum_changed f queries number old new there)

abbrev reads_of : Option Standing → ℕ
reads_of None = 0
reads_of (Some source) = source.reads

reads_there : (shard : ℕ) (query : WorldQuery) (source : Standing) → slice_get query.sources shard ≡ Some source → reads_at shard query ≡ source.reads
reads_there shard query source there = ap reads_of there

-- the ledger of the shard that was polled
own_ledger : (queries : List WorldQuery) (number shard given : ℕ) (query : WorldQuery) (old new : Standing) (from to : ℕ)
    → slice_get queries number ≡ Some query → slice_get query.sources shard ≡ Some old → to + old.reads ≡ from + new.reads
    → to + reads_on shard queries ≡ from + reads_on shard (slice_set queries number (with_source query given shard new))
own_ledger queries number shard given query old new from to there source ledger = omega (
  arith,
  ledger,
  sum_changed (reads_at shard) queries number query (with_source query given shard new) there,
  reads_there shard query old source,
  reads_there shard (with_source query given shard new) new (get_same query.sources shard old new source),
)

other_ledger : (from to : List ℕ) (shard other : ℕ) → to ≡ slice_set from shard (slice_index to shard) → (shard == other) ≡ false
    → slice_index to other ≡ slice_index from other
other_ledger from to shard other set apart =
    ap (λ all. slice_index all other) set
    ∙ get_or-set_other from shard other (slice_index to shard) 0 (λ e. both_ways (shard == other) apart (eq-eqb shard other (sym e)))

-- where nothing changed the ledgers stay
pub none_rise : (old new : WorldState) (from to : List ℕ) → new ≡ old → to ≡ from → RiseByReads old new from to
none_rise old new from to same ledgers = record {
  at = λ shard. ap (λ all. slice_index all shard + reads_on shard old.queries) ledgers
      ∙ ap (λ (state : WorldState). slice_index from shard + reads_on shard state.queries) (sym same);
}

-- the codes of the first entries
codes_first : (bits n : ℕ) (history : List JournalEntry) → AreCodes bits history → AreCodes bits (take n history)
codes_first bits zero history codes = tt
codes_first bits (suc n) [] codes = tt
codes_first bits (suc n) (entry ∷ history) codes = (codes.0, codes_first bits n history codes.1)

-- ---- what it does
module _ {W : ℕ} (bits room : ℕ) (journal : JournalState) (places : List (Place W)) (queries : List (Held W))
    (keeps : KeepsWorld bits room journal places queries) (number : ℕ) (held : Held W) (there : slice_get queries number ≡ Some held)
    (whole : IsJournal journal) (few : HaveFewRows) (shard budget : ℕ) (low : shard < length places) (some : 1 ≤ budget) (new : Held W) (from to :
    List ℕ) (said : Told)
    (polls : PollsHeld budget shard held new from to said) (open_still : held.cancelled ≡ false) where
  abbrev z : Setting
  z = setting_seen bits room journal places

  abbrev s : WorldState
  s = state_seen bits journal places queries

  abbrev t : WorldState
  t = state_seen bits journal places (slice_set queries number new)

  abbrev query : WorldQuery
  query = query_seen bits held

  abbrev g : Gathered (QuerySource W)
  g = polls.before

  abbrev gathering : Gathering
  gathering = gathering_seen g

  is_there : slice_get s.queries number ≡ Some query
  is_there = seen_there bits room journal places queries keeps number held there

  same_given : query.given ≡ g.given
  same_given = given_is bits room journal places queries keeps number held there g polls.was

  same_answer : answer_of gathering ≡ answer_on z s.history query
  same_answer = answered bits room journal places queries keeps number held there g polls.was whole few

  has : HasGathering z s number query gathering
  has = has_gathering bits room journal places queries keeps number held there g polls.was

  below : shard < length g.sources
  below = omega (arith, low, number_is bits room journal places queries keeps number held there g polls.was)

  found : (source : QuerySource W) × (slice_get g.sources shard ≡ Some source)
  found = at_within g.sources shard below

  abbrev was : QuerySource W
  was = found.0

  read_was : slice_index_or g.sources shard was ≡ was
  read_was = get_or_from_slice_get g.sources shard was was found.1

  is_source : slice_get (sources_of question_asked standing_told g.sources) shard ≡ Some (source_of question_asked standing_told was)
  is_source = seen_at bits room journal places queries keeps number held there g polls.was shard was found.1

  -- the source was polled
  module _ (due : PollsDue question_asked standing_told budget shard g polls.after from to said) where
    abbrev polled : QuerySource W
    polled = slice_index_or polls.after.sources shard was

    asked : question_asked polled ≡ question_asked was
    asked = due.polls.asked was ∙ ap question_asked read_was

    did : Polls budget (question_asked was) (standing_told was) (standing_told polled) (slice_index from shard) (slice_index to shard) due.answer
    did = subst (λ (one : QuerySource W). Polls budget (question_asked one) (standing_told one) (standing_told polled) (slice_index from shard)
        (slice_index to shard) due.answer) read_was (due.polls.polls was)

    own_polls : Polls budget (question_asked was) (standing_told was) (standing_told polled) (standing_told was).reads (standing_told polled).reads
        due.answer
    own_polls = record {
      given = did.given;
      floor = did.floor;
      rises = did.rises;
      ledger = omega arith;
      spent = did.spent;
      begun = did.begun;
      farther = did.farther;
      stays_ended = did.stays_ended;
      answers = did.answers;
      spends = did.spends;
    }

    abbrev after : Held W
    after = with_gather held (Some (gathered (slice_set g.sources shard polled) g.limit g.given g.last))

    new_is : new ≡ after
    new_is = polls.now ∙ ap (λ (gather : Gathered (QuerySource W)). with_gather held (Some gather)) (due.polls.others was)

    state_is : t ≡ with_query s number (with_source query query.given shard (standing_told polled))
    state_is = ap (λ (one : Held W). state_seen bits journal places (slice_set queries number one)) new_is
        ∙ state_changed bits room journal places queries keeps number held there g polls.was shard was polled found.1 asked g.given g.last
        ∙ ap (λ (n : ℕ). with_query s number (with_source query n shard (standing_told polled))) (sym same_given)

    -- ---- the next hit is no nearer than what it begins
    next_same : next_hit gathering ≡ slice_get (answer_on z s.history query) query.given
    next_same = first_dropped g.given (answer_of gathering) ∙ ap (λ (hits : List Hit). slice_get hits g.given) same_answer
        ∙ ap (slice_get (answer_on z s.history query)) (sym same_given)

    goes_on : g.given < g.limit
    goes_on = ltb-true g.given g.limit (and_parts _ _ (due.due was found.1)).0

    near_is : (question_asked was).near ≡ asks_near query.ask
    near_is = (has.gathers.asked shard (source_of question_asked standing_told was) is_source).asks.near

    still_next : asks_near query.ask ≡ true → next_hit gathering ≡ None → ⊥
    still_next near none =
        let rows = rows_of (take query.position s.history) in
        let codes = codes_of_history bits (take query.position s.history) (codes_first bits query.position s.history keeps.sound.codes) in
        omega (
          arith,
          goes_on,
          none_dropped g.given (answer_of gathering) none,
          ap length same_answer,
          has.gathers.limit,
          near_long bits rows query.ask near (near_has_all bits rows (code_of query.ask) codes),
        )

    begins_near : asks_near query.ask ≡ true
        → IfSome (standing_told polled).begun (λ radius. IfSome (distance_of (next_hit gathering)) (λ far. radius ≤ far))
        → IsUpTo (standing_told polled).begun (distance_of (next_hit gathering))
    begins_near near within = go (next_hit gathering) refl
      where
        go : (next : Option Hit) → next_hit gathering ≡ next → IsUpTo (standing_told polled).begun (distance_of (next_hit gathering))
        go None e = absurd (still_next near e)
        go (Some hit) e = subst (λ (next : Option Hit). IsUpTo (standing_told polled).begun (distance_of next)) (sym e)
            (up_to (standing_told polled).begun hit.dist
            (subst (λ (next : Option Hit). IfSome (standing_told polled).begun (λ radius. IfSome (distance_of next) (λ far. radius ≤ far))) e within))

    begins_up : IfSome (standing_told polled).begun (λ radius. IfSome (distance_of (next_hit gathering)) (λ far. radius ≤ far))
        → IsUpTo (standing_told polled).begun (next_distance z s.history query)
    begins_up within = subst (λ (next : Option Hit). IsUpTo (standing_told polled).begun (distance_of next)) next_same
        (elim (cases_Bool (asks_near query.ask)) [
          | inl near ↦ begins_near near within
          | inr far ↦ range_begins (standing_told polled).begun (distance_of (next_hit gathering))
              ((polls.lawful polled).begun.range (ap (λ (a : Asked). a.near) asked ∙ near_is ∙ far))
        ])

    begins : ((standing_told polled).begun ≡ (standing_told was).begun) ⊎ IsUpTo (standing_told polled).begun (next_distance z s.history query)
    begins = elim (due.begins.at shard was below) [
      | inl same ↦ inl (same ∙ ap (λ (one : QuerySource W). (standing_told one).begun) read_was)
      | inr within ↦ inr (begins_up within)
    ]

    -- ---- the whole
    polls_source : PollsSource z s number shard budget query (source_of question_asked standing_told was) due.answer t
    polls_source = record {
      new = standing_told polled;
      polls = own_polls;
      lawful = subst (λ (a : Asked). IsLawful a (standing_told polled)) asked (polls.lawful polled);
      begun = begins;
      after = state_is;
    }

    held_polled : IsQueryHeld z s.history new
    held_polled = subst (IsQueryHeld z s.history) (sym new_is)
        (changed_is_held bits room journal places queries keeps number held there g polls.was shard was polled found.1 asked g.given g.last open_still
        (one_polled question_asked standing_told g.sources shard was polled g.limit g.given g.last below (sym read_was) asked did.given
        ((keeps.held number held there).gathered g polls.was).holds))

    own_rise : slice_index to shard + reads_on shard s.queries ≡ slice_index from shard + reads_on shard t.queries
    own_rise = own_ledger s.queries number shard query.given query (standing_told was) (standing_told polled) (slice_index from shard)
        (slice_index to shard) is_there
        (stands_there z s.history query gathering shard (source_of question_asked standing_told was) has.gathers is_source) did.ledger
        ∙ ap (λ (state : WorldState). slice_index from shard + reads_on shard state.queries) (sym state_is)

  -- it wasn't
  module _ (none : PollsNone question_asked standing_told shard g polls.after from to said) where
    new_same : new ≡ held
    new_same = polls.now ∙ ap (λ (gather : Gathered (QuerySource W)). with_gather held (Some gather)) none.same
        ∙ ap (with_gather held) (sym polls.was)
        ∙ ap (λ (gather : Option (Gathered (QuerySource W))). let one : Held W = record held { gather = gather } in one)
        (sym ((keeps.held number held there).whole open_still).gather)

    same_state : t ≡ s
    same_state = state_again bits room journal places queries keeps number held there new new_same

  polls_at : PollsAt z s number shard budget said t
  polls_at = record {
    query = query;
    g = gathering;
    source = source_of question_asked standing_told was;
    has = has;
    is_source = is_source;
    held = λ idle. elim polls.polls [
      | inl due ↦ absurd (both_ways (is_due gathering (source_of question_asked standing_told was)) idle (due.due was found.1))
      | inr none ↦ (none.said_is, same_state none)
    ];
    polled = λ ready. elim polls.polls [
      | inl due ↦ (due.answer, due.said_is, polls_source due)
      | inr none ↦ absurd (both_ways (is_due gathering (source_of question_asked standing_told was)) (none.not_due was found.1) ready)
    ];
  }

  pub poll_step : WorldStep z s (Poll number shard budget) (Ok said) t
  poll_step = (
    may_poll z s number shard budget low query is_there open_still
        (all_pinned bits room journal places queries keeps number held there g polls.was),
    polls_at,
  )

  pub poll_keeps : KeepsWorld bits room journal places (slice_set queries number new)
  poll_keeps = elim polls.polls [
    | inl due ↦ query_keeps bits room journal places queries keeps number held there new (ap (λ (one : Held W). one.front) (new_is due)) (held_polled due)
        (step_sound z s keeps.sound (Poll number shard budget) (Ok said) t some poll_step)
    | inr none ↦ keeps_again bits room journal places queries keeps number held there new (new_same none)
  ]

  pub poll_rises : RiseByReads s t from to
  poll_rises = elim polls.polls [
    | inr none ↦ none_rise s t from to (same_state none) none.ledgers
    | inl due ↦ record {
      at = λ other. elim (cases_Bool (shard == other)) [
        | inl this ↦ subst (λ (k : ℕ). slice_index to k + reads_on k s.queries ≡ slice_index from k + reads_on k t.queries) (eqb-true shard other this)
            (own_rise due)
        | inr apart ↦ omega (
          arith,
          other_ledger from to shard other due.polls.ledgers apart,
          step_reads z s keeps.sound other (Poll number shard budget) (Ok said) t apart poll_step,
        )
      ];
    }
  ]

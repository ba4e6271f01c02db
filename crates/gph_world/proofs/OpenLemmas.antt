-- The opening of a front is that of a query.
use Rattle.std.proofs.Common.{◌≡◌, inl, inr, ℕ, zero, suc, ◌<◌, Bool, true, false, List, [], ◌∷◌, ◌++◌, length, map, replicate, Option, Some, None, refl, sym, ap, subst, ◌∙◌, arith}
use Rattle.std.specs.Prelude.{◌==◌, nat_le, Ok, slice_get, option_map}
use Rattle.std.specs.List.{AllByRecursion}
use Rattle.std.specs.declared.alloc.Global.{Global}
use Rattle.std.specs.declared.sync.Arc.{Arc}
use Rattle.std.proofs.lemmas.Bool.{eqb-true, or_cases}
use Rattle.std.proofs.lemmas.List.{length-map, map-append}
use Rattle.std.proofs.lemmas.Option.{none-some, same_Some}
use Rattle.hamming_model.specs.History.{JournalEntry}
use Rattle.hamming_model.specs.Recoded.{AreStoredEntries, cut_entry, cut_history}
use Rattle.part_layout.specs.Laid.{Laid}
use Rattle.shard_version.specs.Tables.{Tabled}
use Rattle.commit_journal.specs.Fronts.{FrontState, has_position, position_of}
use Rattle.commit_journal.specs.Journals.{IsLive, JournalState, KeepsFronts, KnowsFront, Opens}
use Rattle.world_model.specs.declared.told.Told.TheVariants as told
use Rattle.world_model.specs.declared.refused.Refused.TheVariants.{Many}
use Rattle.world_model.specs.Events.{IsQuestion, Open, Setting}
use Rattle.world_model.specs.QuerySteps.{ListsOlder}
use Rattle.world_model.specs.Refusals.{first_cause, refusal}
use Rattle.world_model.specs.Sound.{IsSound}
use Rattle.world_model.specs.WorldState.{WorldQuery, WorldState, fresh_query, live_fronts}
use Rattle.world_model.specs.WorldStep.{WorldStep}
use Rattle.world_model.proofs.Lookups.{get_snoc, none_there}
use Rattle.world_model.proofs.StepLemmas.{step_sound}
use Rattle.world_bridge.proofs.HeldLemmas.{held_opened}
use Rattle.world_parts.specs.Asks.{IsStoredAsk, ask_seen}
use Rattle.gph_world.specs.Kept.{IsQueryHeld, KeepsWorld, front_at}
use Rattle.world_parts.specs.Seen.{layout_pinned, query_seen}
use Rattle.gph_world.specs.Seen.{setting_seen, state_seen}
use Rattle.gph_world.specs.Worlds.{setting_of}
use Rattle.world_parts.specs.declared.ask.Ask.{Ask}
use Rattle.world_parts.specs.Whole.{IsWhole}
use Rattle.world_parts.specs.declared.held.Held.{Held}
use Rattle.world_parts.specs.declared.place.Place.{Place}
use Rattle.gph_world.proofs.HeldLemmas.{front_apart, front_last, front_past, stands_live, stands_open}
use Rattle.gph_world.proofs.RefusalLemmas.{cause_if, cause_not}

-- a position of a list is below what bounds the list
below_of : (position other : ℕ) (xs : List ℕ) → AllByRecursion (λ x. x < position) xs → has_position xs other ≡ true → other < position
below_of position other [] all listed = cc
below_of position other (x ∷ xs) all listed = elim (or_cases (x == other) (has_position xs other) listed) [
  | inl this ↦ omega (arith, eqb-true x other this, all.0)
  | inr later ↦ below_of position other xs all.1 later
]

-- no version is pinned on any shard
none_pinned : (shards : ℕ) → map layout_pinned (replicate shards None) ≡ replicate shards None
none_pinned zero = refl
none_pinned (suc n) = ap (λ (rest : List (Option Laid)). None ∷ rest) (none_pinned n)

-- a world with so many queries opened refuses one more, or doesn't
pub too_many : (z : Setting) (s : WorldState) (who : ℕ) (ask : _) (opened : ℕ) → opened ≡ length s.queries → nat_le 65536 opened ≡ true
    → refusal z s (Open who ask) ≡ Some Many
too_many z s who ask opened same full =
    ap (λ (o : Option _). first_cause (None ∷ None ∷ None ∷ o ∷ None ∷ None ∷ None ∷ None ∷ None ∷ None ∷ []))
    (cause_if (nat_le 65536 (length s.queries)) Many (ap (nat_le 65536) (sym same) ∙ full))

pub not_many : (z : Setting) (s : WorldState) (who : ℕ) (ask : _) (opened : ℕ) → opened ≡ length s.queries → nat_le 65536 opened ≡ false
    → refusal z s (Open who ask) ≡ None
not_many z s who ask opened same few =
    ap (λ (o : Option _). first_cause (None ∷ None ∷ None ∷ o ∷ None ∷ None ∷ None ∷ None ∷ None ∷ None ∷ []))
    (cause_not (nat_le 65536 (length s.queries)) Many (ap (nat_le 65536) (sym same) ∙ few))

module _ {W : ℕ} (bits room : ℕ) (old new : JournalState) (places : List (Place W)) (queries : List (Held W))
    (keeps : KeepsWorld bits room old places queries) (who : ℕ) (front : FrontState) (opens : Opens old new who front)
    (live : IsLive new front) (knows : KnowsFront new front) (fronts : KeepsFronts old new) (ask : Ask W)
    (formed : IsQuestion bits (ask_seen bits ask)) (stored : IsStoredAsk bits ask) (held : Held W) (ask_is : held.ask ≡ ask)
    (position_is : held.position ≡ position_of front) (front_is : held.front ≡ Some front)
    (pins_are : held.pinned.value.items ≡ replicate (length places) None) (gather_is : held.gathered.value ≡ None) (goes_on : held.cancelled ≡ false)
    (whole : IsWhole held) where
  abbrev z : Setting
  z = setting_seen bits room old places

  abbrev s : WorldState
  s = state_seen bits old places queries

  limit_same : new.limit ≡ old.limit
  limit_same = ap (λ (journal : JournalState). journal.limit) opens.after

  history_same : new.history ≡ old.history
  history_same = ap (λ (journal : JournalState). journal.history) opens.after

  long : length s.history ≡ length old.history
  long = length-map old.history (cut_entry bits)

  at_end : held.position ≡ length s.history
  at_end = position_is ∙ ap length opens.entries ∙ sym long

  seen : query_seen bits held ≡ fresh_query z (ask_seen bits ask) (length s.history) front.older
  seen =
      ap (λ (a : Ask W). let q : WorldQuery = record (query_seen bits held) { ask = ask_seen bits a } in q) ask_is
      ∙ ap (λ (n : ℕ). let q : WorldQuery = record (query_seen bits held) { ask = ask_seen bits ask; position = n } in q) at_end
      ∙ ap (λ (f : Option FrontState). let q : WorldQuery = record (query_seen bits held) {
        ask = ask_seen bits ask;
        position = length s.history;
        front = option_map (λ one. one.older) f;
      } in q) front_is
      ∙ ap (λ (pinned : List (Option Laid)). let q : WorldQuery = record (query_seen bits held) {
        ask = ask_seen bits ask;
        position = length s.history;
        front = Some front.older;
        pinned = pinned;
      } in q) (ap (map layout_pinned) pins_are ∙ none_pinned (length places))
      ∙ ap (λ (g : Option _). let q : WorldQuery = record (fresh_query z (ask_seen bits ask) (length s.history) front.older) {
        sources = Rattle.world_parts.specs.Seen.standings_held g;
        given = Rattle.world_parts.specs.Seen.given_by g;
        cancelled = held.cancelled;
      } in q) gather_is
      ∙ ap (λ (b : Bool). let q : WorldQuery = record (fresh_query z (ask_seen bits ask) (length s.history) front.older) { cancelled = b } in q) goes_on

  lists : ListsOlder (live_fronts s.queries) (length s.history) front.older
  lists = record {
    ascending = opens.older.ascending;
    lists = λ other. (
      λ listed. (
        omega (arith, long, below_of (length old.history) other front.older opens.older.below listed),
        stands_open bits room old places queries keeps other (opens.older.only other listed),
      ),
      λ both. opens.older.all other (stands_live bits room old places queries keeps other both.1) (omega (arith, long, both.0)),
    );
  }

  after_is : state_seen bits new places (queries ++ held ∷ [])
      ≡ record s { queries = s.queries ++ fresh_query z (ask_seen bits ask) (length s.history) front.older ∷ [] }
  after_is =
      ap (λ (history : List JournalEntry). let t : WorldState = record s {
        history = cut_history bits history;
        queries = map (query_seen bits) (queries ++ held ∷ []);
      } in t) history_same
      ∙ ap (λ (all : List WorldQuery). let t : WorldState = record s { queries = all } in t)
      (map-append (query_seen bits) queries (held ∷ []) ∙ ap (λ (q : WorldQuery). s.queries ++ q ∷ []) seen)

  pub open_step : (opened position : ℕ) → opened ≡ length queries → position ≡ position_of front → nat_le 65536 opened ≡ false
      → WorldStep z s (Open who (ask_seen bits ask)) (Ok (told.Opened opened position)) (state_seen bits new places (queries ++ held ∷ []))
  open_step opened position number_is at few =
      let number : opened ≡ length s.queries = number_is ∙ sym (length-map queries (query_seen bits)) in (
        not_many z s who (ask_seen bits ask) opened number few,
        record {
          older = front.older;
          lists = lists;
          after = after_is;
          said_is = ap (λ (n : ℕ). told.Opened n position) number
              ∙ ap (told.Opened (length s.queries)) (at ∙ ap length opens.entries ∙ sym long);
        },
      )

  -- ---- what is kept
  new_is_held : IsQueryHeld (setting_seen bits room new places) (cut_history bits new.history) held
  new_is_held = record {
    stored = subst (IsStoredAsk bits) (sym ask_is) stored;
    front = λ other there. ap position_of (same_Some other front (sym there ∙ front_is)) ∙ sym position_is;
    pins = λ shard version there. absurd (none_there (length places) shard version
        (ap (λ (pins : List (Option (Arc Tabled Global))). slice_get pins shard) (sym pins_are) ∙ there));
    gathered = λ g there. absurd (none-some g (sym gather_is ∙ there));
    whole = λ _. whole;
  }

  held_before : (other : Held W) → IsQueryHeld z s.history other → IsQueryHeld (setting_seen bits room new places) (cut_history bits new.history) other
  held_before other was =
      subst (λ (limit : ℕ). IsQueryHeld (setting_of bits (length places) room limit) (cut_history bits new.history) other) (sym limit_same)
      (subst (λ (history : List JournalEntry). IsQueryHeld z (cut_history bits history) other) (sym history_same) was)

  pub open_keeps : nat_le 65536 (length queries) ≡ false → KeepsWorld bits room new places (queries ++ held ∷ [])
  open_keeps few = record {
    few_words = keeps.few_words;
    words = keeps.words;
    some_shards = keeps.some_shards;
    few_shards = keeps.few_shards;
    some_room = keeps.some_room;
    small_room = keeps.small_room;
    stored = subst (AreStoredEntries W bits) (sym history_same) keeps.stored;
    sound = subst (λ (limit : ℕ). IsSound (setting_of bits (length places) room limit) (state_seen bits new places (queries ++ held ∷ []))) (sym limit_same)
        (step_sound z s keeps.sound (Open who (ask_seen bits ask)) (Ok (told.Opened (length queries) (position_of front)))
        (state_seen bits new places (queries ++ held ∷ [])) formed (open_step (length queries) (position_of front) refl refl few));
    live = held_opened old new (front_at queries) (front_at (queries ++ held ∷ [])) (length queries) who front keeps.live
        (front_past queries (length queries) (omega arith)) opens live knows fronts (front_last queries held ∙ front_is)
        (λ other apart. front_apart queries held other apart);
    held = λ number other there. elim (get_snoc queries number held other there) [
      | inl both ↦ subst (IsQueryHeld (setting_seen bits room new places) (cut_history bits new.history)) (sym both.1) new_is_held
      | inr before ↦ held_before other (keeps.held number other before)
    ];
  }

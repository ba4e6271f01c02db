-- What each call makes of the journal and of the seat's view may be released.
use Rattle.std.proofs.Common.{◌≡◌, ◌≢◌, ℕ, ◌+◌, ◌<◌, ◌≤◌, ◌==◌, Bool, true, false, cond, List, [], ◌∷◌, ◌++◌, inl, inr, length, refl, sym, ap, ◌∙◌, subst, append-nil, append_assoc, arith, Option, Some, None, eqb-true, eq-eqb, true≢false, is_some}
use Rattle.std.specs.List.{AllByRecursion}
use Rattle.std.specs.FinMap as map
use Rattle.hamming_model.specs.History.{JournalEntry, Operation, is_accepted}
use Rattle.hamming_model.specs.Recoded.{AreStoredEntries, IsStoredOperation}
use Rattle.part_layout.specs.declared.config.Config.{Config}
use Rattle.entry_log.specs.Decisions.{decision_of}
use Rattle.commit_journal.specs.declared.decided.Decided.{Decided}
use Rattle.commit_journal.specs.Fronts.{FrontState, live_at, position_of}
use Rattle.commit_journal.specs.Journals.{Commits, IsJournal, IsLive, JournalState, KeepsFronts, KnowsFront, with_entry}
use Rattle.commit_journal.specs.Journals as journals
use Rattle.versioned_shard.specs.Rule.{KeepsJournalRule}
use Rattle.versioned_shard.specs.Shards.{ShardState}
use Rattle.board_seats.specs.declared.rule.View.{View}
use Rattle.board_seats.specs.Moves.{Releases}
use Rattle.board_seats.specs.Rule.{IsJournalOf}
use Rattle.board_seats.specs.Views.{AmongFronts, IsOwnLive, IsViewOf, settled_view, with_front, with_living, with_number}
use Rattle.board_seats.specs.Visits.{IsStoredFor}
use Rattle.board_seats.proofs.FrontLemmas.{lives_on, map_insert, map_remove}
use Rattle.board_seats.proofs.SeatLemmas.{nothing_new}
use Rattle.board_seats.proofs.TableLemmas.{all_join, all_weaker, none_number, of_some}

abbrev KeepsShards : JournalState → JournalState → Type 0
KeepsShards old new = (shard : ShardState) → KeepsJournalRule old shard → KeepsJournalRule new shard

-- a journal with the same history and limit, and no number less
pub still_sound : {W : ℕ} (config : Config) (old new : JournalState) → IsJournalOf W config old → IsJournal new → new.history ≡ old.history
    → new.limit ≡ old.limit → old.next ≤ new.next → IsJournalOf W config new
still_sound {W} config old new sound whole history limit rises = record {
  config_is = sound.config_is;
  few_words = sound.few_words;
  room = sound.room;
  sound = whole;
  drawn = subst (λ (h : List JournalEntry). AllByRecursion (λ each. each.who < new.next) h) (sym history)
      (all_weaker (λ each. each.who < old.next) (λ each. each.who < new.next) old.history (λ each low. omega arith) sound.drawn);
  limit = limit ∙ sound.limit;
  codes = subst (AreStoredEntries W config.bits) (sym history) sound.codes;
}

module _ {W : ℕ} (config : Config) (v : View W) (old : JournalState) (sound : IsJournalOf W config old) (knows : IsViewOf config old v) where
  -- ---- the journal as it was
  pub as_it_was : Releases config v old old (settled_view old v)
  as_it_was = record {
    sound = sound;
    more = [];
    longer = append-nil old.history;
    own = λ n e. tt;
    rises = omega arith;
    fronts = λ front known. known;
    live = λ front apart live. live;
    shards = λ shard rule. rule;
    held = refl;
    left = refl;
    number = λ n e. inl e;
    knows = record {
      seen = nothing_new v.number old.history;
      met = knows.met;
      number = knows.number;
      config_is = knows.config_is;
      fronts = knows.fronts;
    };
  }

  module _ (new : JournalState) (whole : IsJournal new) (fronts : KeepsFronts old new) (shards : KeepsShards old new) where
    -- ---- an entry more, or none
    module _ (entry : JournalEntry) (number : v.number ≡ Some entry.who) (stored : IsStoredOperation W config.bits entry.operation) where
      one_more : new ≡ with_entry old entry → Releases config v old new (settled_view new v)
      one_more is =
          let longer : old.history ++ entry ∷ [] ≡ new.history = sym (ap (λ (j : JournalState). j.history) is) in
          let next : new.next ≡ old.next = ap (λ (j : JournalState). j.next) is in
          let live : (front : FrontState) → IsLive old front → IsLive new front = λ front l. ap (λ (j : JournalState). live_at j.live front.id) is ∙ l in
          record {
            sound = record {
              config_is = sound.config_is;
              few_words = sound.few_words;
              room = sound.room;
              sound = whole;
              drawn = subst (AllByRecursion (λ each. each.who < new.next)) longer (all_join (λ each. each.who < new.next) old.history (entry ∷ [])
                  (all_weaker (λ each. each.who < old.next) (λ each. each.who < new.next) old.history (λ each low. omega arith) sound.drawn)
                  (let low = knows.number entry.who number in omega arith, tt));
              limit = ap (λ (j : JournalState). j.limit) is ∙ sound.limit;
              codes = subst (AreStoredEntries W config.bits) longer
                  (all_join (λ each. IsStoredOperation W config.bits each.operation) old.history (entry ∷ []) sound.codes (stored, tt));
            };
            more = entry ∷ [];
            longer = longer;
            own = λ n apart. ((λ e. apart (number ∙ ap Some e)), tt);
            rises = omega arith;
            fronts = fronts;
            live = λ front apart l. live front l;
            shards = shards;
            held = refl;
            left = refl;
            number = λ n e. inl e;
            knows = record {
              seen = nothing_new v.number new.history;
              met = (knows.met.0 ++ entry ∷ [], sym (append_assoc v.met knows.met.0 (entry ∷ [])) ∙ ap (λ l. l ++ entry ∷ []) knows.met.1 ∙ longer);
              number = λ n e. (let low = knows.number n e in omega arith);
              config_is = knows.config_is;
              fronts = λ front has. (let own = knows.fronts front has in
                  record { who = own.who; live = live front own.live; knows = fronts front own.knows });
            };
          }

      pub committed : (decided : Decided) → Commits old new entry decided → Releases config v old new (settled_view new v)
      committed decided commits = go (is_accepted (decision_of decided.decision)) commits.after
        where
          go : (b : Bool) → new ≡ record old { history = cond b (old.history ++ entry ∷ []) old.history }
              → Releases config v old new (settled_view new v)
          go true is = one_more is
          go false is = subst (λ j. Releases config v old j (settled_view j v)) (sym is) as_it_was

    -- ---- a front more
    module _ (who : ℕ) (front : FrontState) (number : v.number ≡ Some who) (opens : journals.Opens old new who front) (live : IsLive new front)
        (known : KnowsFront new front) where
      still_live : (other : FrontState) → IsLive old other → IsLive new other
      still_live other stands = ap (λ (j : JournalState). live_at j.live other.id) opens.after ∙ go (other.id == front.id) refl
        where
          go : (b : Bool) → (other.id == front.id) ≡ b
              → live_at (map.insert old.live front.id (who, length old.history)) other.id ≡ Some (other.who, position_of other)
          go true e = absurd (
              let same : other.id ≡ front.id = eqb-true other.id front.id e in
              let gone : live_at old.live other.id ≡ None = ap (live_at old.live) same ∙ opens.fresh in cc)
          go false e = map_insert old.live front.id (who, length old.history) other.id
              ∙ ap (λ b. cond b (Some (who, length old.history)) (live_at old.live other.id)) e ∙ stands

      each : (other : FrontState) → AmongFronts (front ∷ v.fronts) other → IsOwnLive new v.number other
      each other has = elim has [
        | inl same ↦ subst (IsOwnLive new v.number) (sym same) (record { who = number ∙ ap Some (sym opens.who); live = live; knows = known })
        | inr old_one ↦ let own = knows.fronts other old_one in
            record { who = own.who; live = still_live other own.live; knows = fronts other own.knows }
      ]

      pub opened : Releases config v old new (with_front front new v)
      opened =
          let history : new.history ≡ old.history = ap (λ (j : JournalState). j.history) opens.after in
          let next : new.next ≡ old.next = ap (λ (j : JournalState). j.next) opens.after in
          record {
            sound = still_sound config old new sound whole history (ap (λ (j : JournalState). j.limit) opens.after) (omega arith);
            more = [];
            longer = append-nil old.history ∙ sym history;
            own = λ n e. tt;
            rises = omega arith;
            fronts = fronts;
            live = λ other apart stands. still_live other stands;
            shards = shards;
            held = refl;
            left = refl;
            number = λ n e. inl e;
            knows = record {
              seen = nothing_new v.number new.history;
              met = (knows.met.0, knows.met.1 ∙ sym history);
              number = λ n e. (let low = knows.number n e in omega arith);
              config_is = knows.config_is;
              fronts = each;
            };
          }

    -- ---- a front less
    module _ (front : FrontState) (own : AmongFronts v.fronts front) (is : new ≡ journals.without_front old front.id) where
      -- another front, of another session or with another number, is live still
      left_live : (other : FrontState) → other.id ≢ front.id → IsLive old other → IsLive new other
      left_live other apart stands = ap (λ (j : JournalState). live_at j.live other.id) is ∙ go (other.id == front.id) refl
        where
          go : (b : Bool) → (other.id == front.id) ≡ b → live_at (map.remove old.live front.id) other.id ≡ Some (other.who, position_of other)
          go true e = absurd (apart (eqb-true other.id front.id e))
          go false e = map_remove old.live front.id other.id ∙ ap (λ b. cond b None (live_at old.live other.id)) e ∙ stands

      others_apart : (other : FrontState) → v.number ≢ Some other.who → IsLive old other → other.id ≢ front.id
      others_apart other apart stands same =
          let mine = knows.fronts front own in
          let pair : Some (front.who, position_of front) ≡ Some (other.who, position_of other) = sym mine.live ∙ ap (live_at old.live) (sym same) ∙ stands in
          let who : front.who ≡ other.who =
          (let both : (front.who, position_of front) ≡ (other.who, position_of other) = cc in ap (λ (p : ℕ × ℕ). p.0) both) in
          apart (mine.who ∙ ap Some who)

      still_there : (other : FrontState) → is_some (live_at new.live other.id) ≡ true → other.id ≢ front.id
      still_there other there same =
          let gone : live_at new.live other.id ≡ None =
          ap (live_at new.live) same ∙ ap (λ (j : JournalState). live_at j.live front.id) is ∙ map_remove old.live front.id front.id
          ∙ ap (λ b. cond b None (live_at old.live front.id)) (eq-eqb front.id front.id refl) in
          let never : is_some (live_at new.live other.id) ≡ false = ap is_some gone in
          true≢false (sym there ∙ never)

      pub closed : Releases config v old new (with_living new v)
      closed =
          let history : new.history ≡ old.history = ap (λ (j : JournalState). j.history) is in
          let next : new.next ≡ old.next = ap (λ (j : JournalState). j.next) is in
          record {
            sound = still_sound config old new sound whole history (ap (λ (j : JournalState). j.limit) is) (omega arith);
            more = [];
            longer = append-nil old.history ∙ sym history;
            own = λ n e. tt;
            rises = omega arith;
            fronts = fronts;
            live = λ other apart stands. left_live other (others_apart other apart stands) stands;
            shards = shards;
            held = refl;
            left = refl;
            number = λ n e. inl e;
            knows = record {
              seen = nothing_new v.number new.history;
              met = (knows.met.0, knows.met.1 ∙ sym history);
              number = λ n e. (let low = knows.number n e in omega arith);
              config_is = knows.config_is;
              fronts = λ other has. (let left = lives_on new v.fronts other has in let its = knows.fronts other left.0 in
                  record { who = its.who; live = left_live other (still_there other left.1) its.live; knows = fronts other its.knows });
            };
          }

  -- ---- a number drawn
  module _ (new : JournalState) (whole : IsJournal new) (fronts : KeepsFronts old new) (free : v.number ≡ None) (found : v.next ≡ old.next)
      (is : new ≡ record old { next = old.next + 1 }) where
    entered_rule : KeepsShards old new
    entered_rule shard rule = subst (λ (j : JournalState). KeepsJournalRule j shard) (sym is)
        (record { within = rule.within; current = rule.current; laid = rule.laid; kept = rule.kept; fronts = rule.fronts })

    pub drawn : Releases config v old new (with_number new v)
    drawn =
        let history : new.history ≡ old.history = ap (λ (j : JournalState). j.history) is in
        let next : new.next ≡ old.next + 1 = ap (λ (j : JournalState). j.next) is in
        record {
          sound = still_sound config old new sound whole history (ap (λ (j : JournalState). j.limit) is) (omega arith);
          more = [];
          longer = append-nil old.history ∙ sym history;
          own = λ n e. tt;
          rises = omega arith;
          fronts = fronts;
          live = λ other apart stands. ap (λ (j : JournalState). live_at j.live other.id) is ∙ stands;
          shards = entered_rule;
          held = refl;
          left = refl;
          number = λ n e. inr (sym (of_some v.next n e) ∙ found);
          knows = record {
            seen = nothing_new (Some v.next) new.history;
            met = (knows.met.0, knows.met.1 ∙ sym history);
            number = λ n e. (let same = of_some v.next n e in omega arith);
            config_is = knows.config_is;
            fronts = λ other has. absurd (none_number other.who (sym free ∙ (knows.fronts other has).who));
          };
        }

pub none_not_some : (found : Option ℕ) (n : ℕ) → found ≡ None → found ≡ Some n → ⊥
none_not_some found n one other = cc

-- what a view's Config keeps is kept at a claim
pub stored_for : {W : ℕ} (view : View W) (operation : Operation) (config : Config) (journal : JournalState) → IsViewOf config journal view
    → IsStoredFor view operation → IsStoredOperation W config.bits operation
stored_for {W} view operation config journal knows stored =
    subst (λ (c : Config). IsStoredOperation W c.bits operation) (knows.config_is stored.config stored.config_is) stored.stored

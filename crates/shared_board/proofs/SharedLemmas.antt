-- What a seat's visit makes of its desk.
use Rattle.std.proofs.lemmas.List.{length-append}
use Rattle.std.proofs.Common.{◌≡◌, ℕ, zero, suc, ◌+◌, ◌≤◌, true≢false, List, [], ◌∷◌, ◌++◌, length, get_or, replicate, refl, sym, ap, subst, ◌∙◌, arith, Option, Some, None}
use mathlib.Core.List.{IsPrefix}
use Rattle.std.specs.Prelude.{IfOk, OnErr}
use Rattle.std.specs.declared.result.Result.{Result}
use Rattle.std.specs.declared.result.Result.TheVariants.{Ok, Err}
use Rattle.hamming_model.specs.History.{IsLegal, JournalEntry, Operation}
use Rattle.hamming_model.specs.Recoded.{AreStoredEntries}
use Rattle.part_layout.specs.declared.config.Config.{Config}
use Rattle.commit_journal.specs.declared.decided.Decided.{Decided}
use Rattle.commit_journal.specs.Journals.{Commits, JournalState}
use Rattle.atomic_table.specs.Seated.{TableId}
use Rattle.atomic_table.specs.Table.{Me}
use Rattle.session_desk.specs.Calls.{CommitsAt, Learns, OnlyLearns}
use Rattle.session_desk.specs.Desks.{DeskState, Pin, pin_position, pinned_at}
use Rattle.board_seats.specs.declared.rule.Cell.{Cell}
use Rattle.board_seats.specs.declared.rule.Opening.{Opening}
use Rattle.board_seats.specs.declared.rule.View.{View}
use Rattle.board_seats.specs.Rule.{IsJournalOf}
use Rattle.board_seats.specs.Views.{IsViewOf, first_view, settled_view}
use Rattle.board_seats.specs.Visits.{IsFree, Visited}
use Rattle.board_seats.specs.Told.{SeesAll}
use Rattle.shared_board.specs.Boards.{HasPlaces, IsAskedFor, board_number}
use Rattle.shared_board.specs.Shared.{IsSeated, SharedState, first_desk, fresh_desk, padded_to, seated_of, shared_desk}

-- ---- lists
pub padded_to_length : (n : ℕ) (numbers : List ℕ) → length (padded_to n numbers) ≡ n
padded_to_length zero numbers = refl
padded_to_length (suc n) [] = ap suc (padded_to_length n [])
padded_to_length (suc n) (first ∷ rest) = ap suc (padded_to_length n rest)

pub padded_to_none : (n : ℕ) → padded_to n [] ≡ replicate n 0
padded_to_none zero = refl
padded_to_none (suc n) = ap (λ (l : List ℕ). 0 ∷ l) (padded_to_none n)

pub replicate_length : {A : Type 0} (n : ℕ) (x : A) → length (replicate n x) ≡ n
replicate_length zero x = refl
replicate_length (suc n) x = ap suc (replicate_length n x)

none_at : (n shard : ℕ) → pin_position (get_or (replicate n None) shard None) ≡ 0
none_at zero zero = refl
none_at zero (suc shard) = refl
none_at (suc n) zero = refl
none_at (suc n) (suc shard) = none_at n shard

module _ {W : ℕ} (table seat : TableId) (me : Me (Cell W) (View W)) (who : ℕ) (config : Config) where
  -- ---- a desk before all its calls
  pub fresh_is : (pins : List (Option Pin)) → pins ≡ replicate config.shards None → me.0.fronts ≡ [] → me.0.left ≡ []
      → seated_of table who config me.0 0 pins 0 0 ≡ fresh_desk (board_number table) who config me.0.seen me.0.next
  fresh_is pins none no_fronts left = λ i. record {
    board = board_number table;
    who = who;
    config = config;
    seen = me.0.seen;
    next = me.0.next;
    fronts = no_fronts i;
    last = 0;
    pins = none i;
    left = (ap (padded_to config.shards) left ∙ padded_to_none config.shards) i;
    done = 0;
    late = 0;
  }

  pub fresh_seated : (pins : List (Option Pin)) → pins ≡ replicate config.shards None → me.0.fronts ≡ [] → me.0.left ≡ []
      → seat ≡ table → HasPlaces table config → IsFree me → me.0.number ≡ Some who → me.0.config ≡ Some config → IsAskedFor W config
      → IsLegal me.0.seen → length me.0.seen ≤ config.entries → AreStoredEntries W config.bits me.0.seen
      → IsSeated table seat me (seated_of table who config me.0 0 pins 0 0)
  fresh_seated pins none no_fronts left same places free number asked fits legal few codes =
      subst (λ s. IsSeated table seat me s) (sym (fresh_is pins none no_fronts left)) (record {
        board = same;
        places = places;
        free = free;
        number = number;
        config_is = asked;
        desk = record {
          config = fits.config_is;
          few_words = fits.few_words;
          room = fits.room;
          legal = legal;
          few = few;
          codes = codes;
          pins = replicate_length config.shards None;
          left = replicate_length config.shards 0;
          pinned = λ shard low. (let nought = none_at config.shards shard in omega arith);
          pinned_within = λ shard low. (let nought = none_at config.shards shard in omega arith);
          places = λ e. absurd (true≢false (sym e));
          each = λ e. absurd (true≢false (sym e));
        };
      })

  module _ (last : ℕ) (pins : List (Option Pin)) (done late : ℕ) (old : IsSeated table seat me (seated_of table who config me.0 last pins done late))
      (now : SharedState) (is_now : seated_of table who config me.0 last pins done late ≡ now) where
    abbrev before : DeskState
    before = shared_desk (seated_of table who config me.0 last pins done late)

    -- ---- a seat that has seen a whole journal, and left no shard elsewhere
    pub seated_by : (seat' : TableId) (me' : Me (Cell W) (View W)) (asked : Config) (journal : JournalState) (last' : ℕ) → seat' ≡ seat → IsFree me'
        → me'.0.number ≡ Some who → me'.0.config ≡ Some config → me'.0.left ≡ me.0.left → me'.0.seen ≡ journal.history
        → length me.0.seen ≤ length journal.history → IsJournalOf W asked journal → asked ≡ config
        → IsSeated table seat' me' (seated_of table who config me'.0 last' pins done late)
    seated_by seat' me' asked journal last' same free number config_is left seen grown sound is = record {
      board = same ∙ old.board;
      places = old.places;
      free = free;
      number = number;
      config_is = config_is;
      desk = record {
        config = old.desk.config;
        few_words = old.desk.few_words;
        room = old.desk.room;
        legal = subst IsLegal (sym seen) sound.sound.legal;
        few = (let few = sound.sound.few in let long = ap length seen in let limit = sound.limit in
            let entries = ap (λ (c : Config). c.entries) is in omega arith);
        codes = subst (AreStoredEntries W config.bits) (sym seen) (subst (λ (c : Config). AreStoredEntries W c.bits journal.history) is sound.codes);
        pins = old.desk.pins;
        left = padded_to_length config.shards me'.0.left;
        pinned = λ shard low. subst (λ (l : List ℕ).
            pinned_at before shard ≤ get_or (padded_to config.shards l) shard 0) (sym left)
            (old.desk.pinned shard low);
        pinned_within = λ shard low. (let was = old.desk.pinned_within shard low in let long = ap length seen in omega arith);
        places = λ e. absurd (true≢false (sym e));
        each = λ e. absurd (true≢false (sym e));
      };
    }

    -- what a view knows of a journal its desk may learn
    pub learns_history : (asked : Config) (journal : JournalState) → IsViewOf asked journal me.0 → Learns before journal.history
    learns_history asked journal knows = record {
      more = knows.seen.more;
      longer = sym knows.seen.longer;
      others = knows.seen.others who old.number;
      all = λ e. absurd (true≢false (sym e));
    }

    -- what a view has seen is no longer than the history of a journal that has only grown
    pub seen_within : (asked : Config) (journal : JournalState) → IsViewOf asked journal me.0 → (after : JournalState)
        → IsPrefix journal.history after.history → length me.0.seen ≤ length after.history
    seen_within asked journal knows after grown =
        let first = ap length knows.seen.longer in let second = ap length grown.1 in
        let one = length-append me.0.seen knows.seen.more in let two = length-append journal.history grown.0 in omega arith

    asked_is : (asked : Config) (journal : JournalState) → IsViewOf asked journal me.0 → asked ≡ config
    asked_is asked journal knows = sym (knows.config_is config old.config_is)

    -- ---- after a visit that changes nothing of the view but what is seen
    module _ (seat' : TableId) (me' : Me (Cell W) (View W)) (same : seat' ≡ seat) (visit : Visited settled_view me me') where
      abbrev after : DeskState
      after = shared_desk (seated_of table who config me'.0 last pins done late)

      seen_is : me'.0.seen ≡ visit.new.history
      seen_is = ap (λ (m : Me (Cell W) (View W)). m.0.seen) visit.me_is

      pub settled_seated : IsSeated table seat' me' (seated_of table who config me'.0 last pins done late)
      settled_seated = seated_by seat' me' visit.config visit.new last same
          (record { slots = ap (λ (m : Me (Cell W) (View W)). m.1) visit.me_is; held = ap (λ (m : Me (Cell W) (View W)). m.0.held) visit.me_is })
          (ap (λ (m : Me (Cell W) (View W)). m.0.number) visit.me_is ∙ old.number)
          (ap (λ (m : Me (Cell W) (View W)). m.0.config) visit.me_is ∙ ap Some (asked_is visit.config visit.old visit.knows))
          (ap (λ (m : Me (Cell W) (View W)). m.0.left) visit.me_is) seen_is
          (seen_within visit.config visit.old visit.knows visit.new visit.grown) visit.sound_after (asked_is visit.config visit.old visit.knows)

      settled_after : after ≡ record before { seen = after.seen }
      settled_after =
          ap (λ (m : Me (Cell W) (View W)). shared_desk (seated_of table who config m.0 last pins done late)) visit.me_is
          ∙ ap (λ (h : List JournalEntry). (record before { seen = h })) (sym seen_is)

      pub settled_learns : visit.new ≡ visit.old → OnlyLearns (shared_desk now) after
      settled_learns is = subst (λ (s : SharedState). OnlyLearns (shared_desk s) after) is_now (record {
        learns = subst (Learns before) (sym (seen_is ∙ ap (λ (j : JournalState). j.history) is)) (learns_history visit.config visit.old visit.knows);
        after = settled_after;
      })

      pub settled_commits : (operation : Operation) (decided : Decided)
          → Commits visit.old visit.new (record { who = who; operation = operation }) decided
          → CommitsAt (shared_desk now) after operation decided
      settled_commits operation decided commits = subst (λ (s : SharedState). CommitsAt (shared_desk s) after operation decided) is_now (record {
        before = visit.old.history;
        learns = learns_history visit.config visit.old visit.knows;
        decision = commits.decision ∙ ap (λ (n : ℕ). Rattle.hamming_model.specs.History.decision_on visit.old.history n operation)
            (visit.sound.limit ∙ ap (λ (c : Config). c.entries) (asked_is visit.config visit.old visit.knows));
        seen = seen_is ∙ ap (λ (j : JournalState). j.history) commits.after;
        after = settled_after;
        position = commits.position ∙ ap length (sym seen_is);
      })

      pub settled_fronts : me'.0.fronts ≡ now.fronts
      settled_fronts = ap (λ (m : Me (Cell W) (View W)). m.0.fronts) visit.me_is ∙ ap (λ (s : SharedState). s.fronts) is_now

    -- ---- after a load that shows the whole history
    module _ (seat' : TableId) (me' : Me (Cell W) (View W)) (same : seat' ≡ seat) (met : List JournalEntry) (next : ℕ)
        (sees : SeesAll (record me.0 { met = met; next = next }, me.1) me') where
      sees_seen : me'.0.seen ≡ sees.journal.history
      sees_seen = ap (λ (m : Me (Cell W) (View W)). m.0.seen) sees.me_is

      sees_asked : sees.config ≡ config
      sees_asked = sym (sees.knows.config_is config old.config_is)

      pub met_seated : IsSeated table seat' me' (seated_of table who config me'.0 last pins done late)
      met_seated = seated_by seat' me' sees.config sees.journal last same
          (record {
            slots = ap (λ (m : Me (Cell W) (View W)). m.1) sees.me_is ∙ old.free.slots;
            held = ap (λ (m : Me (Cell W) (View W)). m.0.held) sees.me_is ∙ old.free.held;
          })
          (ap (λ (m : Me (Cell W) (View W)). m.0.number) sees.me_is ∙ old.number)
          (ap (λ (m : Me (Cell W) (View W)). m.0.config) sees.me_is ∙ old.config_is)
          (ap (λ (m : Me (Cell W) (View W)). m.0.left) sees.me_is) sees_seen
          (let one = ap length sees.knows.seen.longer in let two = length-append me.0.seen sees.knows.seen.more in omega arith) sees.sound sees_asked

      abbrev met_after : DeskState
      met_after = shared_desk (seated_of table who config me'.0 last pins done late)

      pub met_learns : OnlyLearns (shared_desk now) met_after
      met_learns = subst (λ (s : SharedState). OnlyLearns (shared_desk s) met_after) is_now (record {
        learns = subst (Learns before) (sym sees_seen) (record {
          more = sees.knows.seen.more;
          longer = sym sees.knows.seen.longer;
          others = sees.knows.seen.others who old.number;
          all = λ e. absurd (true≢false (sym e));
        });
        after = ap (λ (m : Me (Cell W) (View W)). shared_desk (seated_of table who config m.0 last pins done late)) sees.me_is
            ∙ ap (λ (h : List JournalEntry). (record before { seen = h })) (sym sees_seen);
      })

      pub met_begins : IsPrefix met me'.0.seen
      met_begins = subst (IsPrefix met) (sym sees_seen) sees.knows.met

      pub met_fronts : me'.0.fronts ≡ now.fronts
      met_fronts = ap (λ (m : Me (Cell W) (View W)). m.0.fronts) sees.me_is ∙ ap (λ (s : SharedState). s.fronts) is_now

-- ---- the first desk
module _ {W : ℕ} (table seat : TableId) (me : Me (Cell W) (View W)) (opening : Opening)
    (pins : List (Option Pin)) (none : pins ≡ replicate opening.config.shards None)
    (first : me ≡ (first_view opening, [])) where
  of_me : {A : Type 0} (part : Me (Cell W) (View W) → A) → part me ≡ part (first_view opening, [])
  of_me part = ap part first

  abbrev first_seen : SharedState
  first_seen = seated_of table opening.number opening.config me.0 0 pins 0 0

  pub first_is : first_seen ≡ first_desk (board_number table) opening
  first_is =
      fresh_is table seat me opening.number opening.config pins none (of_me (λ m. m.0.fronts))
      (of_me (λ m. m.0.left))
      ∙ of_me (λ m. fresh_desk (board_number table) opening.number opening.config m.0.seen m.0.next)

  pub first_seated : seat ≡ table → HasPlaces table opening.config → IsAskedFor W opening.config
      → IsSeated table seat me first_seen
  first_seated same places fits =
      let seen : me.0.seen ≡ [] = of_me (λ m. m.0.seen) in
      fresh_seated table seat me opening.number opening.config pins none (of_me (λ m. m.0.fronts))
      (of_me (λ m. m.0.left)) same places
      (record { slots = of_me (λ m. m.1); held = of_me (λ m. m.0.held) })
      (of_me (λ m. m.0.number)) (of_me (λ m. m.0.config)) fits
      (subst IsLegal (sym seen) (record { each = λ i other low. absurd (omega (arith, low)) }))
      (let long = ap length seen in omega arith)
      (subst (AreStoredEntries W opening.config.bits) (sym seen) tt)

pub replicate_more : {A : Type 0} (n : ℕ) (x : A) → replicate n x ++ x ∷ [] ≡ replicate (n + 1) x
replicate_more {A} zero x = refl
replicate_more {A} (suc n) x =
    let next : suc n + 1 ≡ suc (n + 1) = omega arith in
    ap (λ (l : List A). x ∷ l) (replicate_more n x) ∙ ap (λ (k : ℕ). replicate k x) (sym next)

-- ---- answers
module _ {A B : Type 0} (result : Result A B) where
  pub visit_of : (V : Type 0) (P : A → V → Type 0) (Q : V → Type 0) → IfOk result (λ a. (v : V) × P a v) → OnErr result ((v : V) × Q v) → V
  visit_of V P Q = go result
    where
      go : (r : Result A B) → IfOk r (λ a. (v : V) × P a v) → OnErr r ((v : V) × Q v) → V
      go (Ok a) done failed = done.0
      go (Err b) done failed = failed.0

  pub map_ok : {P Q : A → Type 0} → ((a : A) → P a → Q a) → IfOk result P → IfOk result Q
  map_ok = go result
    where
      go : (r : Result A B) → {P Q : A → Type 0} → ((a : A) → P a → Q a) → IfOk r P → IfOk r Q
      go (Ok a) f p = f a p
      go (Err b) f p = tt

  pub any_err : {Q : Type 0} → Q → OnErr result Q
  any_err = go result
    where
      go : (r : Result A B) → {Q : Type 0} → Q → OnErr r Q
      go (Ok a) q = tt
      go (Err b) q = q

  pub map_err : {P Q : Type 0} → (P → Q) → OnErr result P → OnErr result Q
  map_err = go result
    where
      go : (r : Result A B) → {P Q : Type 0} → (P → Q) → OnErr r P → OnErr r Q
      go (Ok a) f p = tt
      go (Err b) f p = f p

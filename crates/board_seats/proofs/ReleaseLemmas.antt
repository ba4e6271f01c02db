-- The release of the journal keeps the rule.
use Rattle.std.proofs.Common.{◌≡◌, ◌≢◌, ℕ, suc, ◌+◌, ◌*◌, ◌≤◌, ◌==◌, true, List, [], ◌∷◌, ◌++◌, ⊎_elim, inl, inr, length, set, get_or, sym, refl, ap, ◌∙◌, subst, append_assoc, arith, Option, Some, None}
use mathlib.Core.Option.{some, none, some-injective}
use lib.ListN.{get_elem?}
use prog.Atomic.{either}
use Rattle.std.specs.Prelude.{slice_index}
use Rattle.std.proofs.lemmas.Bool.Decides.{nat_tests}
use Rattle.std.proofs.lemmas.List.{length-set}
use Rattle.part_layout.specs.declared.config.Config.{Config}
use Rattle.commit_journal.specs.Fronts.{FrontState}
use Rattle.commit_journal.specs.Journals.{JournalState}
use Rattle.versioned_shard.specs.Shards.{ShardState}
use Rattle.atomic_table.specs.Table.{State, Me, Allows, rest, stepped}
use Rattle.atomic_table.specs.Table.Act.{gives}
use Rattle.atomic_table.proofs.Lists.{set_else}
use Rattle.board_seats.specs.declared.rule.Cell.{Cell}
use Rattle.board_seats.specs.declared.rule.View.{View}
use Rattle.board_seats.specs.Moves.{Releases}
use Rattle.board_seats.specs.Rule.{BoardState, IsBoardShard, IsJournalOf, IsLeftBehind, IsShown, IsTaken}
use Rattle.board_seats.specs.Told.{Takes, journal_in}
use Rattle.board_seats.specs.Views.{IsViewOf, taking}
use Rattle.board_seats.specs.Visits.{Visited}
use Rattle.board_seats.proofs.TableLemmas.{all_join, all_set, differ_set, holds_none, index_is, other_place, prefix_trans, set_there, shows_same}

module _ {W : ℕ} (s : State (Cell W) (View W)) (id : ℕ) (v w : View W) (config : Config) (old new : JournalState) (word : ℕ) (kept : IsShown s)
    (at : get_elem? s.views id ≡ some v) (asked : v.config ≡ Some config) (holds : v.held ≡ Some (0, Cell.Journal old))
    (moves : Releases config v old new w) (is : word ≡ 2 * length new.history) where
  abbrev held_journal : Option (ℕ × Cell W) → JournalState
  held_journal None = old
  held_journal (Some held) = journal_in held.1

  out : IsTaken 0 (Cell.Journal kept.0.journal) s
  out = elim kept.1.journal [
    | inl h ↦ absurd (h.nobody id v (Cell.Journal old) at holds)
    | inr h ↦ h
  ]

  mine : id ≡ out.id
  mine = out.alone id v (Cell.Journal old) at holds

  same_journal : kept.0.journal ≡ old
  same_journal =
      let view : out.view ≡ v = some-injective out.view v (sym out.stands ∙ ap (get_elem? s.views) (sym mine) ∙ at) in
      ap held_journal (sym out.holds ∙ ap (λ (u : View W). u.held) view ∙ holds)

  config_is : config ≡ kept.0.config
  config_is = (kept.1.desks id v at).config_is config asked

  abbrev board : BoardState
  board = record { config = kept.0.config; journal = new; shards = kept.0.shards }

  desk_was : (i : ℕ) (u : View W) → get_elem? s.views i ≡ some u → IsViewOf kept.0.config old u
  desk_was i u e = subst (λ j. IsViewOf kept.0.config j u) same_journal (kept.1.desks i u e)

  others_desk : (i : ℕ) (u : View W) → i ≢ id → get_elem? s.views i ≡ some u → IsViewOf kept.0.config new u
  others_desk i u apart e =
      let desk = desk_was i u e in
      let theirs : (n : ℕ) → u.number ≡ Some n → v.number ≢ Some n = λ n is' mine'. apart (kept.1.differ i id u v n e at is' mine') in
      record {
        seen = record {
          more = desk.seen.more ++ moves.more;
          longer = sym (append_assoc u.seen desk.seen.more moves.more) ∙ ap (λ l. l ++ moves.more) desk.seen.longer ∙ moves.longer;
          others = λ n is'. all_join (λ entry. entry.who ≢ n) desk.seen.more moves.more (desk.seen.others n is') (moves.own n (theirs n is'));
        };
        met = prefix_trans u.met old.history new.history desk.met (moves.more, moves.longer);
        number = λ n is'. (let low = desk.number n is' in let up = moves.rises in omega arith);
        config_is = desk.config_is;
        fronts = λ front has. (let own = desk.fronts front has in record {
          who = own.who;
          live = moves.live front (theirs front.who own.who) own.live;
          knows = moves.fronts front own.knows;
        });
      }

  shard_still : (k : ℕ) (shard : ShardState) → get_elem? kept.0.shards k ≡ some shard → IsBoardShard kept.0.config new k shard
  shard_still k shard there =
      let stood = subst (λ j. IsBoardShard kept.0.config j k shard) same_journal (kept.1.sound.shards k shard there) in
      record { rule = moves.shards shard stood.rule; shard_is = stood.shard_is; shards_are = stood.shards_are; bits_are = stood.bits_are }

  pub releases : (slice_index s.words 0 ≡ 2 * length old.history + 1)
      × IsShown (record { words = set s.words 0 word; homes = set s.homes 0 (some (Cell.Journal new)); views = set s.views id w })
  releases = (
    index_is s.words 0 (2 * length kept.0.journal.history + 1) out.word ∙ ap (λ (j : JournalState). 2 * length j.history + 1) same_journal,
    (
      board,
      record {
        journal = inl (record {
          word = set_there s.words 0 word (2 * length kept.0.journal.history + 1) out.word ∙ ap some is;
          home = set_there s.homes 0 (some (Cell.Journal new)) none out.home;
          nobody = λ k u c e. all_set (λ k' u'. (c' : Cell W) → u'.held ≢ Some (0, c')) s.views id w (λ c' e'. holds_none w.held 0 c' moves.held e')
              (λ k' u' apart e' c' e''. apart (out.alone k' u' c' e' e'' ∙ sym mine)) k u e c;
        });
        places = λ k shard there. shows_same s id v w at (suc k) (Cell.Shard shard) (set s.words 0 word) (set s.homes 0 (some (Cell.Journal new)))
            (set_else s.words 0 (suc k) word (λ z. omega arith)) (set_else s.homes 0 (suc k) (some (Cell.Journal new)) (λ z. omega arith))
            (λ c e. absurd (holds_none w.held (suc k) c moves.held e))
            (λ c e. absurd (let z = other_place 0 (suc k) (Cell.Journal old) c (sym holds ∙ e) in omega arith)) (kept.1.places k shard there);
        sound = record { journal = subst (λ c. IsJournalOf W c new) config_is moves.sound; shards = shard_still };
        count = length-set s.homes 0 (some (Cell.Journal new)) ∙ kept.1.count;
        left = all_set (λ _ u. IsLeftBehind kept.0 u) s.views id w
            (λ k shard there. subst (λ l. get_or l k 0 ≤ shard.current.at) (sym moves.left) (kept.1.left id v at k shard there))
            (λ k u _ e. kept.1.left k u e);
        desks = all_set (λ _ u. IsViewOf kept.0.config new u) s.views id w (subst (λ c. IsViewOf c new w) config_is moves.knows) others_desk;
        differ = differ_set s id v w at kept.1.differ (λ n e. ⊎_elim inl
            (λ fresh. inr (λ i u there has. let low = (desk_was i u there).number n has in omega arith)) (moves.number n e));
      },
    ),
  )

module _ {W : ℕ} (slots id : ℕ) (v w : View W) (config : Config) (old new : JournalState) (word : ℕ) (asked : v.config ≡ Some config)
    (holds : v.held ≡ Some (0, Cell.Journal old)) (moves : Releases config v old new w) (is : word ≡ 2 * length new.history) where
  -- a store that brings the journal home
  pub stores : (then : ℕ → Me (Cell W) (View W) → Type 0) → then word (w, [])
      → Allows IsShown slots id (v, (0, Cell.Journal new) ∷ []) 0 (λ _. word) (λ _. then word)
  stores then told s kept long at small = (w, gives, tt, (releases s id v w config old new word kept at asked holds moves is).1, told)

  -- an exchange that finds the odd word, as it must
  pub exchanges : (then : ℕ → Me (Cell W) (View W) → Type 0) (odd : ℕ) → odd ≡ 2 * length old.history + 1 → ((n : ℕ) → then n (w, []))
      → Allows IsShown slots id (v, (0, Cell.Journal new) ∷ []) 0 (λ n. either (n == odd) word n) then
  exchanges then odd e told s kept long at small =
      let done = releases s id v w config old new word kept at asked holds moves is in
      let found : slice_index s.words 0 ≡ odd = done.0 ∙ sym e in
      let test : (slice_index s.words 0 == odd) ≡ true = grind (arith, nat_tests) in (
        w,
        gives,
        tt,
        subst (λ b. IsShown (stepped s 0 (either b word (slice_index s.words 0)) id ((0, Cell.Journal new) ∷ []) w gives)) (sym test) done.1,
        told (slice_index s.words 0),
      )

-- ---- a seat that has taken the journal
module _ {W : ℕ} (before me : Me (Cell W) (View W)) (n : ℕ) (t : Takes before n me) where
  abbrev pub holder : View W
  holder = taking t.config t.journal before.0

  abbrev first_of : Cell W → List (ℕ × Cell W) → Cell W
  first_of d [] = d
  first_of d (x ∷ xs) = x.1

  -- what lies in the slot is what was taken
  pub lies : (now : Cell W) (others : List (ℕ × Cell W)) → me.1 ≡ (0, now) ∷ others → now ≡ Cell.Journal t.journal
  lies now others value = ap (first_of now) (sym value ∙ ap (λ (m : Me (Cell W) (View W)). m.1) t.me_is)

  pub has_slot : (old : Cell W) × (me.1 ≡ (0, old) ∷ rest me.1)
  has_slot =
      let e = ap (λ (m : Me (Cell W) (View W)). m.1) t.me_is in
      (Cell.Journal t.journal, e ∙ ap (λ (l : List (ℕ × Cell W)). (0, Cell.Journal t.journal) ∷ l) (sym (ap rest e)))

  module _ (new : JournalState) (cell : Cell W) (F : JournalState → View W → View W) (lying : cell ≡ Cell.Journal new)
      (moves : Releases t.config holder t.journal new (F new holder)) where
    -- the seat and the place after the release
    abbrev pub visited : (me' : Me (Cell W) (View W)) → me' ≡ (F (journal_in cell) me.0, []) → Visited F before me'
    visited me' e = record {
      config = t.config;
      old = t.journal;
      new = new;
      sound = t.sound;
      sound_after = moves.sound;
      grown = (moves.more, moves.longer);
      knows = t.knows;
      me_is = e ∙ ap (λ z. (F (journal_in z) me.0, [])) lying ∙ ap (λ (m : Me (Cell W) (View W)). (F new m.0, [])) t.me_is;
    }

    module _ (slots id word : ℕ) (is : word ≡ 2 * length new.history) where
      -- a store brings the journal home
      pub home : Allows IsShown slots id (me.0, (0, cell) ∷ rest me.1) 0 (λ _. word) (λ _ me'. me' ≡ (F (journal_in cell) me.0, []))
      home = subst (λ (m : Me (Cell W) (View W)). Allows IsShown slots id (m.0, (0, cell) ∷ rest m.1) 0 (λ _. word)
          (λ _ me'. me' ≡ (F (journal_in cell) m.0, []))) (sym t.me_is)
          (subst (λ z. Allows IsShown slots id (holder, (0, z) ∷ []) 0 (λ _. word) (λ _ me'. me' ≡ (F (journal_in z) holder, []))) (sym lying)
          (stores slots id holder (F new holder) t.config t.journal new word refl refl moves is (λ n me'. me' ≡ (F new holder, [])) refl))

      -- and so does an exchange
      pub home_by_exchange : (odd : ℕ) → odd ≡ 2 * length t.journal.history + 1
          → Allows IsShown slots id (me.0, (0, cell) ∷ rest me.1) 0 (λ n. either (n == odd) word n) (λ _ me'. me' ≡ (F (journal_in cell) me.0, []))
      home_by_exchange odd e =
          subst (λ (m : Me (Cell W) (View W)). Allows IsShown slots id (m.0, (0, cell) ∷ rest m.1) 0 (λ n. either (n == odd) word n)
          (λ _ me'. me' ≡ (F (journal_in cell) m.0, []))) (sym t.me_is)
          (subst (λ z. Allows IsShown slots id (holder, (0, z) ∷ []) 0 (λ n. either (n == odd) word n)
          (λ _ me'. me' ≡ (F (journal_in z) holder, []))) (sym lying)
          (exchanges slots id holder (F new holder) t.config t.journal new word refl refl moves is (λ n me'. me' ≡ (F new holder, [])) odd e
          (λ n. refl)))

abbrev front_in : {W : ℕ} → FrontState → Cell W → FrontState
front_in d (Cell.Journal journal) = d
front_in d (Cell.Shard shard) = d
front_in d (Cell.Front front) = front

pub front_in_same : {W : ℕ} {front other : FrontState} → ◌≡◌ {A = Cell W} (Cell.Front front) (Cell.Front other) → front ≡ other
front_in_same {front = front} e = ap (front_in front) e

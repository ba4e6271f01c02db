-- The claim of a shard keeps the rule. No claim of the journal is needed.
use Rattle.std.proofs.Common.{◌≡◌, ℕ, zero, suc, ◌<◌, ◌==◌, Bool, true, false, List, [], ◌∷◌, inl, inr, length, set, sym, refl, ap, ◌∙◌, subst, arith, eq-eqb, Some, None}
use mathlib.Core.Option.{some, none, some-injective}
use mathlib.Core.Logic.{dite}
use native.Mathlib.Decide.{ℕ_discrete}
use lib.ListN.{get_elem?}
use prog.Atomic.{either}
use Rattle.std.specs.Prelude.{pred, slice_index}
use Rattle.std.specs.Bool.{MatchBool}
use Rattle.std.proofs.lemmas.Bool.Decides.{nat_tests}
use Rattle.std.proofs.lemmas.List.{length-set}
use Rattle.part_layout.specs.declared.config.Config.{Config}
use Rattle.commit_journal.specs.Journals.{JournalState}
use Rattle.versioned_shard.specs.Shards.{ShardState}
use Rattle.atomic_table.specs.Table.{State, Me, Act, Allows, Valid, stepped, carried_after}
use Rattle.atomic_table.specs.Table.Act.{keeps, takes}
use Rattle.atomic_table.proofs.Lists.{set_else}
use Rattle.board_seats.specs.declared.rule.Cell.{Cell}
use Rattle.board_seats.specs.declared.rule.View.{View}
use Rattle.board_seats.specs.Views.{IsViewOf, taking_shard}
use Rattle.board_seats.specs.Rule.{IsLeftBehind, IsShown}
use Rattle.board_seats.specs.Told.{TakesShard}
use Rattle.board_seats.proofs.ClaimLemmas.{same_config}
use Rattle.board_seats.proofs.TableLemmas.{all_set, differ_set, holds_none, index_is, other_place, set_there, shows_same}
use Rattle.board_seats.proofs.SeatLemmas.{nothing_new, stays}

-- below the length of a list there is one
pub one_of : {A : Type 0} (items : List A) (k : ℕ) → k < length items → (item : A) × (get_elem? items k ≡ some item)
one_of {A} [] k low = absurd (omega (arith, low))
one_of {A} (item ∷ items) zero low = (item, refl)
one_of {A} (item ∷ items) (suc k) low = one_of items k (omega (arith, low))

-- a view that takes a shard knows what is so of the journal
pub taken_shard_view : {W : ℕ} (config : Config) (journal : JournalState) (k : ℕ) (shard : ShardState) (view : View W) → IsViewOf config journal view
    → IsViewOf config journal (taking_shard config journal k shard view)
taken_shard_view {W} config journal k shard view desk = record {
  seen = nothing_new view.number journal.history;
  met = desk.met;
  number = desk.number;
  config_is = λ asked e. sym (same_config config asked e);
  fronts = desk.fronts;
}

module _ {W : ℕ} (slots id : ℕ) (me : Me (Cell W) (View W)) (k : ℕ) (free : me.0.held ≡ None) (empty : me.1 ≡ []) (there : suc k < slots) where
  claimed_shard : (s : State (Cell W) (View W)) (n : ℕ) → IsShown s → length s.homes ≡ slots → get_elem? s.views id ≡ some me.0
      → slice_index s.words (suc k) ≡ n → (b : Bool) → (n == 0) ≡ b
      → (w : View W) × (a : Act (Cell W)) × Valid s.homes me.1 a × IsShown (stepped s (suc k) (either b 1 n) id me.1 w a)
      × MatchBool b (TakesShard (suc k) me (w, carried_after me.1 a)) ((w, carried_after me.1 a) ≡ me)
  claimed_shard s n kept long at is false e =
      (me.0, keeps, tt, subst (λ m. IsShown (stepped s (suc k) m id me.1 me.0 keeps)) is (stays slots id me (suc k) s kept at), refl)
  claimed_shard s n kept long at is true e =
      let board = kept.0 in
      let journal = board.journal in
      let few : k < length board.shards = (let count = kept.1.count in omega arith) in
      let found = one_of board.shards k few in
      let shard = found.0 in
      let w = taking_shard board.config journal k shard me.0 in
      let desk = kept.1.desks id me.0 at in
      elim (kept.1.places k shard found.1) [
        | inl h ↦ (
          w,
          takes (suc k) (Cell.Shard shard),
          h.home,
          (
            board,
            record {
              journal = shows_same s id me.0 w at 0 (Cell.Journal journal) (set s.words (suc k) 1) (set s.homes (suc k) none)
                  (set_else s.words (suc k) 0 1 (λ z. omega arith)) (set_else s.homes (suc k) 0 none (λ z. omega arith))
                  (λ c e'. absurd (let z = other_place (suc k) 0 (Cell.Shard shard) c e' in omega arith))
                  (λ c e'. absurd (holds_none me.0.held 0 c free e')) kept.1.journal;
              places = λ j other stands. dite (ℕ_discrete j k)
                  (λ same. let is_shard : other ≡ shard = some-injective other shard (sym stands ∙ ap (get_elem? board.shards) same ∙ found.1) in
                  inr (record {
                    word = ap (get_elem? (set s.words (suc k) 1)) (ap suc same) ∙ set_there s.words (suc k) 1 0 h.word;
                    home = ap (get_elem? (set s.homes (suc k) none)) (ap suc same) ∙ set_there s.homes (suc k) none (some (Cell.Shard shard)) h.home;
                    id = id;
                    view = w;
                    stands = set_there s.views id w me.0 at;
                    holds = (let back = sym same in let back_shard = sym is_shard in λ i. Some (suc (back i), Cell.Shard (back_shard i)));
                    alone = λ i u c e'. all_set (λ i' u'. (c' : Cell W) → u'.held ≡ Some (suc j, c') → i' ≡ id) s.views id w (λ c' e''. refl)
                        (λ i' u' _ e'' c' held. absurd (h.nobody i' u' c' e'' (held ∙ ap (λ (p : ℕ). Some (suc p, c')) same))) i u e' c;
                  }))
                  (λ apart. shows_same s id me.0 w at (suc j) (Cell.Shard other) (set s.words (suc k) 1) (set s.homes (suc k) none)
                  (set_else s.words (suc k) (suc j) 1 (λ z. apart (ap pred z))) (set_else s.homes (suc k) (suc j) none (λ z. apart (ap pred z)))
                  (λ c e'. absurd (apart (sym (ap pred (other_place (suc k) (suc j) (Cell.Shard shard) c e')))))
                  (λ c e'. absurd (holds_none me.0.held (suc j) c free e')) (kept.1.places j other stands));
              sound = kept.1.sound;
              count = length-set s.homes (suc k) none ∙ kept.1.count;
              left = all_set (λ _ u. IsLeftBehind board u) s.views id w (kept.1.left id me.0 at) (λ i u _ e'. kept.1.left i u e');
              desks = all_set (λ _ u. IsViewOf board.config journal u) s.views id w (taken_shard_view board.config journal k shard me.0 desk)
                  (λ i u _ e'. kept.1.desks i u e');
              differ = differ_set s id me.0 w at kept.1.differ (λ n' e'. inl e');
            },
          ),
          record {
            config = board.config;
            journal = journal;
            shard = shard;
            me_is = ap (λ c. (w, (suc k, Cell.Shard shard) ∷ c)) empty;
            sound = kept.1.sound.journal;
            stands = kept.1.sound.shards k shard found.1;
            knows = desk;
            left = kept.1.left id me.0 at k shard found.1;
          },
        )
        | inr h ↦
            let number : n ≡ 1 = sym is ∙ index_is s.words (suc k) 1 h.word in
            let nought : n ≡ 0 = grind (arith, nat_tests) in
            absurd (omega (arith, number, nought))
      ]

  pub claims_shard : Allows IsShown slots id me (suc k) (λ n. either (n == 0) 1 n)
      (λ n me'. MatchBool (n == 0) (TakesShard (suc k) me me') (me' ≡ me))
  claims_shard s kept long at small =
      claimed_shard s (slice_index s.words (suc k)) kept long at refl (slice_index s.words (suc k) == 0) refl

-- the same at a place that is written as a sum
pub claims_place : {W : ℕ} (place k : ℕ) → place ≡ suc k → (slots id : ℕ) (me : Me (Cell W) (View W)) → me.0.held ≡ None → me.1 ≡ [] → suc k < slots
    → Allows IsShown slots id me place (λ n. either (n == 0) 1 n) (λ n me'. MatchBool (n == 0) (TakesShard place me me') (me' ≡ me))
claims_place {W} place k e slots id me free empty there =
    subst (λ (q : ℕ). Allows IsShown slots id me q (λ n. either (n == 0) 1 n) (λ n me'. MatchBool (n == 0) (TakesShard q me me') (me' ≡ me))) (sym e)
    (claims_shard slots id me k free empty there)

-- an exchange that found 0, from a seat as it was before
pub shard_taken_from : {W : ℕ} (place k : ℕ) → place ≡ suc k → (before me me' : Me (Cell W) (View W)) (n : ℕ) → me ≡ before → n ≡ 0
    → MatchBool (n == 0) (TakesShard place me me') (me' ≡ me) → TakesShard (suc k) before me'
shard_taken_from {W} place k e before me me' n same is told =
    subst (λ (q : ℕ). TakesShard q before me') e (subst (λ (m : Me (Cell W) (View W)). TakesShard place m me') same
    (subst (λ (b : Bool). MatchBool b (TakesShard place me me') (me' ≡ me)) (eq-eqb n 0 is) told))

-- The claim of the journal keeps the rule.
use Rattle.std.proofs.Common.{◌≡◌, ℕ, suc, ◌+◌, ◌*◌, ◌%◌, ◌==◌, Bool, true, false, [], ◌∷◌, inl, inr, length, set, sym, refl, ap, ◌∙◌, subst, arith, eq-eqb, Some, None}
use mathlib.Core.Option.{some, none}
use lib.ListN.{get_elem?}
use prog.Atomic.{either}
use Rattle.std.specs.Prelude.{slice_index}
use Rattle.std.specs.Bool.{MatchBool}
use Rattle.std.proofs.lemmas.Bool.Decides.{nat_tests}
use Rattle.std.proofs.lemmas.List.{length-set}
use Rattle.part_layout.specs.declared.config.Config.{Config}
use Rattle.commit_journal.specs.Journals.{JournalState}
use Rattle.atomic_table.specs.Table.{State, Me, Act, Allows, Valid, stepped, carried_after}
use Rattle.atomic_table.specs.Table.Act.{keeps, takes}
use Rattle.atomic_table.proofs.Lists.{set_else}
use Rattle.board_seats.specs.declared.rule.Cell.{Cell}
use Rattle.board_seats.specs.declared.rule.View.{View}
use Rattle.board_seats.specs.Views.{IsViewOf, taking}
use Rattle.board_seats.specs.Rule.{IsLeftBehind, IsShown}
use Rattle.board_seats.specs.Told.{Takes}
use Rattle.board_seats.proofs.TableLemmas.{all_set, differ_set, holds_none, index_is, other_place, set_there, shows_same}
use Rattle.board_seats.proofs.SeatLemmas.{nothing_new, stays}

pub same_config : (a b : Config) → Some a ≡ Some b → a ≡ b
same_config a b e = cc

-- a view that takes the journal knows what is so of it
pub taken_view : {W : ℕ} (config : Config) (journal : JournalState) (view : View W) → IsViewOf config journal view
    → IsViewOf config journal (taking config journal view)
taken_view config journal view desk = record {
  seen = nothing_new view.number journal.history;
  met = desk.met;
  number = desk.number;
  config_is = λ asked e. sym (same_config config asked e);
  fronts = desk.fronts;
}

module _ {W : ℕ} (slots id : ℕ) (me : Me (Cell W) (View W)) (old : ℕ) (free : me.0.held ≡ None) (empty : me.1 ≡ []) (even : old % 2 ≡ 0) where
  claimed : (s : State (Cell W) (View W)) (n : ℕ) → IsShown s → get_elem? s.views id ≡ some me.0 → slice_index s.words 0 ≡ n
      → (b : Bool) → (n == old) ≡ b
      → (w : View W) × (a : Act (Cell W)) × Valid s.homes me.1 a × IsShown (stepped s 0 (either b (old + 1) n) id me.1 w a)
      × MatchBool b (Takes me n (w, carried_after me.1 a)) ((w, carried_after me.1 a) ≡ me)
  claimed s n kept at is false e =
      (me.0, keeps, tt, subst (λ m. IsShown (stepped s 0 m id me.1 me.0 keeps)) is (stays slots id me 0 s kept at), refl)
  claimed s n kept at is true e = elim kept.1.journal [
    | inl h ↦
        let board = kept.0 in
        let config = board.config in
        let journal = board.journal in
        let number : n ≡ 2 * length journal.history = sym is ∙ index_is s.words 0 (2 * length journal.history) h.word in
        let same : n ≡ old = grind (arith, nat_tests) in
        let w = taking config journal me.0 in
        let desk = kept.1.desks id me.0 at in (
          w,
          takes 0 (Cell.Journal journal),
          h.home,
          (
            board,
            record {
              journal = inr (record {
                word = set_there s.words 0 (old + 1) (2 * length journal.history) h.word ∙ ap (λ m. some (m + 1)) (sym same ∙ number);
                home = set_there s.homes 0 none (some (Cell.Journal journal)) h.home;
                id = id;
                view = w;
                stands = set_there s.views id w me.0 at;
                holds = refl;
                alone = λ k u c e. all_set (λ k' u'. (c' : Cell W) → u'.held ≡ Some (0, c') → k' ≡ id) s.views id w (λ c' e'. refl)
                    (λ k' u' _ e' c' e''. absurd (h.nobody k' u' c' e' e'')) k u e c;
              });
              places = λ k shard there. shows_same s id me.0 w at (suc k) (Cell.Shard shard) (set s.words 0 (old + 1)) (set s.homes 0 none)
                  (set_else s.words 0 (suc k) (old + 1) (λ z. omega arith)) (set_else s.homes 0 (suc k) none (λ z. omega arith))
                  (λ c e'. absurd (let z = other_place 0 (suc k) (Cell.Journal journal) c e' in omega arith))
                  (λ c e'. absurd (holds_none me.0.held (suc k) c free e')) (kept.1.places k shard there);
              sound = kept.1.sound;
              count = length-set s.homes 0 none ∙ kept.1.count;
              left = all_set (λ _ u. IsLeftBehind board u) s.views id w (kept.1.left id me.0 at) (λ k u _ e'. kept.1.left k u e');
              desks = all_set (λ _ u. IsViewOf config journal u) s.views id w (taken_view config journal me.0 desk) (λ k u _ e'. kept.1.desks k u e');
              differ = differ_set s id me.0 w at kept.1.differ (λ n' e'. inl e');
            },
          ),
          record {
            config = config;
            journal = journal;
            me_is = ap (λ c. (w, (0, Cell.Journal journal) ∷ c)) empty;
            sound = kept.1.sound.journal;
            knows = desk;
            number = number;
          },
        )
    | inr h ↦
        let number : n ≡ 2 * length kept.0.journal.history + 1 = sym is ∙ index_is s.words 0 (2 * length kept.0.journal.history + 1) h.word in
        let same : n ≡ old = grind (arith, nat_tests) in
        absurd (omega (arith, even, number, same))
  ]

  pub claims : Allows IsShown slots id me 0 (λ n. either (n == old) (old + 1) n) (λ n me'. MatchBool (n == old) (Takes me n me') (me' ≡ me))
  claims s kept long at small = claimed s (slice_index s.words 0) kept at refl (slice_index s.words 0 == old) refl

-- an exchange that found the number which a load before it had found, from a seat as it was before the load
pub taken_from : {W : ℕ} (before me me' : Me (Cell W) (View W)) (n old : ℕ) → me ≡ before → n ≡ old
    → MatchBool (n == old) (Takes me n me') (me' ≡ me) → Takes before old me'
taken_from {W} before me me' n old same is told =
    subst (λ (m : Me (Cell W) (View W)). Takes m old me') same (subst (λ (k : ℕ). Takes me k me') is
    (subst (λ (b : Bool). MatchBool b (Takes me n me') (me' ≡ me)) (eq-eqb n old is) told))

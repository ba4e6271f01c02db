-- Loads, splits and joins keep the rule.
use Rattle.std.proofs.Common.{◌≡◌, ◌≢◌, ℕ, suc, List, [], ◌∷◌, ◌++◌, ⊎_elim, inl, inr, set, sym, refl, ap, ◌∙◌, subst, append-nil, arith, Option, Some, None}
use mathlib.Core.Option.{some}
use lib.ListN.{get_elem?}
use Rattle.std.specs.Prelude.{slice_index}
use Rattle.hamming_model.specs.History.{JournalEntry}
use Rattle.part_layout.specs.declared.config.Config.{Config}
use Rattle.commit_journal.specs.Journals.{JournalState}
use Rattle.atomic_table.specs.Table.{State, Me, Allows, Splits, Joins, stepped}
use Rattle.atomic_table.specs.Table.Act.{keeps}
use Rattle.atomic_table.proofs.Lists.{at_snoc, at_longer, set_again, set_else}
use Rattle.board_seats.specs.declared.rule.Cell.{Cell}
use Rattle.board_seats.specs.declared.rule.View.{View}
use Rattle.board_seats.specs.Views.{IsViewOf, LearnsMore, note_of, spent_view}
use Rattle.board_seats.specs.Rule.{IsLeftBehind, IsShown, ShowsCell}
use Rattle.board_seats.specs.Told.{SeesAll}
use Rattle.board_seats.proofs.TableLemmas.{holds_none, none_number, reviewed, same_words}

-- nothing is learned
abbrev pub nothing_new : (number : Option ℕ) (history : List JournalEntry) → LearnsMore number history history
nothing_new number history = record { more = []; longer = append-nil history; others = λ n e. tt }

none_config : (asked : Config) → ◌≡◌ {A = Option Config} None (Some asked) → ⊥
none_config asked e = cc

-- ---- loads
module _ {W : ℕ} (slots id : ℕ) (me : Me (Cell W) (View W)) where
  pub stays : (k : ℕ) (s : State (Cell W) (View W)) → IsShown s → get_elem? s.views id ≡ some me.0
      → IsShown (stepped s k (slice_index s.words k) id me.1 me.0 keeps)
  stays k s kept at = (
    kept.0,
    reviewed s id me.0 me.0 at kept.0 (set s.words k (slice_index s.words k)) kept.1 (same_words s.words k) refl
        (kept.1.left id me.0 at) (kept.1.desks id me.0 at) (λ n e. e),
  )

  pub looks : (k : ℕ) → Allows IsShown slots id me k (λ n. n) (λ n me'. me' ≡ me)
  looks k s kept long at small = (me.0, keeps, tt, stays k s kept at, refl)

  pub sees : Allows IsShown slots id me 0 (λ n. n) (λ n me'. SeesAll me me')
  sees s kept long at small =
      let journal = kept.0.journal in
      let desk = kept.1.desks id me.0 at in
      let w : View W = record me.0 { seen = journal.history; met = [] } in (
        w,
        keeps,
        tt,
        (
          kept.0,
          reviewed s id me.0 w at kept.0 (set s.words 0 (slice_index s.words 0)) kept.1 (same_words s.words 0) refl (kept.1.left id me.0 at)
              (record {
                seen = nothing_new me.0.number journal.history;
                met = (journal.history, refl);
                number = desk.number;
                config_is = desk.config_is;
                fronts = desk.fronts;
              }) (λ n e. e),
        ),
        record { config = kept.0.config; journal = journal; me_is = refl; sound = kept.1.sound.journal; knows = desk },
      )

-- ---- a seat is split off
module _ {W : ℕ} (id : ℕ) (v : View W) where
  noted : (config : Config) (journal : JournalState) → IsViewOf config journal v → IsViewOf config journal (note_of v)
  noted config journal desk = record {
    seen = record { more = desk.seen.more; longer = desk.seen.longer; others = λ n e. absurd (none_number n e) };
    met = (journal.history, refl);
    number = λ n e. absurd (none_number n e);
    config_is = desk.config_is;
    fronts = λ front has. absurd has;
  }

  pub notes : Splits IsShown id v v (note_of v)
  notes s kept at = (
    kept.0,
    record {
      journal = shows_more 0 (Cell.Journal kept.0.journal) kept.1.journal;
      places = λ k shard there. shows_more (suc k) (Cell.Shard shard) (kept.1.places k shard there);
      sound = kept.1.sound;
      count = kept.1.count;
      left = λ k u e. each (λ _ u'. IsLeftBehind kept.0 u') (kept.1.left) (λ k' j shard there. omega arith) k u e;
      desks = λ k u e. each (λ _ u'. IsViewOf kept.0.config kept.0.journal u') (kept.1.desks)
          (λ k'. noted kept.0.config kept.0.journal (kept.1.desks id v at)) k u e;
      differ = λ i i' u u' n e e' is is'. ⊎_elim
          (λ x. ⊎_elim (λ x'. kept.1.differ i i' u u' n (old i u x) (old i' u' x') is is')
          (λ x'. absurd (none_number n (ap (λ (z : View W). z.number) x' ∙ is'))) (at_snoc (set s.views id v) (note_of v) u' i' e'))
          (λ x. absurd (none_number n (ap (λ (z : View W). z.number) x ∙ is))) (at_snoc (set s.views id v) (note_of v) u i e);
    },
  )
    where
      same : set s.views id v ≡ s.views
      same = set_again s.views id v at

      old : (i : ℕ) (u : View W) → get_elem? (set s.views id v) i ≡ some u → get_elem? s.views i ≡ some u
      old i u e = ap (λ l. get_elem? l i) (sym same) ∙ e

      each : (F : ℕ → View W → Type 0) → ((j : ℕ) (u : View W) → get_elem? s.views j ≡ some u → F j u) → ((j : ℕ) → F j (note_of v))
          → (j : ℕ) (u : View W) → get_elem? (set s.views id v ++ note_of v ∷ []) j ≡ some u → F j u
      each F others last j u e = ⊎_elim (λ x. others j u (old j u x)) (λ x. subst (F j) x (last j)) (at_snoc (set s.views id v) (note_of v) u j e)

      shows_more : (place : ℕ) (cell : Cell W) → ShowsCell place cell s
          → ShowsCell place cell (record { words = s.words; homes = s.homes; views = set s.views id v ++ note_of v ∷ [] })
      shows_more place cell shows = elim shows [
        | inl h ↦ inl (record {
          word = h.word;
          home = h.home;
          nobody = λ k u c e. each (λ _ u'. (c' : Cell W) → u'.held ≢ Some (place, c')) (λ j u' e' c'. h.nobody j u' c' e')
              (λ j c' e'. holds_none None place c' refl e') k u e c;
        })
        | inr h ↦ inr (record {
          word = h.word;
          home = h.home;
          id = h.id;
          view = h.view;
          stands = at_longer (set s.views id v) (note_of v ∷ []) h.id h.view (ap (λ l. get_elem? l h.id) same ∙ h.stands);
          holds = h.holds;
          alone = λ k u c e. each (λ j u'. (c' : Cell W) → u'.held ≡ Some (place, c') → j ≡ h.id) (λ j u' e' c'. h.alone j u' c' e')
              (λ j c' e'. absurd (holds_none None place c' refl e')) k u e c;
        })
      ]

-- ---- a seat takes in what another had seen, and the other is spent
module _ {W : ℕ} (id : ℕ) (v : View W) (other : ℕ) (u : View W) (next : ℕ) (free : u.held ≡ None) where
  abbrev pub both_views : View W
  both_views = record v { met = u.seen; next = next }

  pub joins : Joins IsShown id v other u both_views spent_view
  joins s kept at apart there =
      let config = kept.0.config in
      let journal = kept.0.journal in
      let first = reviewed s id v both_views at kept.0 s.words kept.1 (λ j. refl) refl (kept.1.left id v at)
      (met_view config journal (kept.1.desks id v at) (kept.1.desks other u was)) (λ n e. e) in (
        kept.0,
        reviewed (record { words = s.words; homes = s.homes; views = set s.views id both_views }) other u spent_view there kept.0 s.words
            first (λ j. refl) (sym free) (λ j shard there'. omega arith) (spent config journal) (λ n e. absurd (none_number n e)),
      )
    where
      was : get_elem? s.views other ≡ some u
      was = sym (set_else s.views id other both_views apart) ∙ there

      met_view : (config : Config) (journal : JournalState) → IsViewOf config journal v → IsViewOf config journal u
          → IsViewOf config journal both_views
      met_view config journal desk theirs = record {
        seen = desk.seen;
        met = (theirs.seen.more, theirs.seen.longer);
        number = desk.number;
        config_is = desk.config_is;
        fronts = desk.fronts;
      }

      spent : (config : Config) (journal : JournalState) → IsViewOf config journal (spent_view {W = W})
      spent config journal = record {
        seen = record { more = journal.history; longer = refl; others = λ n e. absurd (none_number n e) };
        met = (journal.history, refl);
        number = λ n e. absurd (none_number n e);
        config_is = λ asked e. absurd (none_config asked e);
        fronts = λ front has. absurd has;
      }

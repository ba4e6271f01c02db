-- The release of a shard keeps the rule.
use Rattle.std.proofs.Common.{◌≡◌, ◌≢◌, ℕ, zero, suc, ◌<◌, ◌≤◌, List, [], ◌∷◌, inl, inr, length, set, get_or, sym, refl, ap, ◌∙◌, subst, arith, Option, Some, None}
use mathlib.Core.Option.{some, none, some-injective}
use lib.ListN.{get_elem?}
use Rattle.std.specs.Prelude.{pred}
use Rattle.std.proofs.lemmas.List.{length-set}
use Rattle.part_layout.specs.declared.config.Config.{Config}
use Rattle.versioned_shard.specs.Shards.{ShardState}
use Rattle.atomic_table.specs.Table.{State, Me, Allows, rest}
use Rattle.atomic_table.specs.Table.Act.{gives}
use Rattle.atomic_table.proofs.Lists.{set_else}
use Rattle.board_seats.specs.declared.rule.Cell.{Cell}
use Rattle.board_seats.specs.declared.rule.View.{View}
use Rattle.board_seats.specs.Moves.{ReleasesShard}
use Rattle.board_seats.specs.Rule.{BoardState, IsBoardShard, IsJournalOf, IsLeftBehind, IsShown, IsTaken, ShowsCell}
use Rattle.board_seats.specs.Told.{TakesShard, shard_in}
use Rattle.board_seats.specs.Views.{IsViewOf, left_shard, put_at, taking_shard}
use Rattle.board_seats.specs.Visits.{VisitedShard}
use Rattle.board_seats.proofs.ShardClaimLemmas.{one_of, taken_shard_view}
use Rattle.board_seats.proofs.TableLemmas.{all_set, differ_set, holds_none, other_place, set_there, shows_same}

-- ---- numbers by place
pub put_here : (k n : ℕ) (xs : List ℕ) → get_or (put_at k n xs) k 0 ≡ n
put_here zero n [] = refl
put_here zero n (x ∷ xs) = refl
put_here (suc k) n [] = put_here k n []
put_here (suc k) n (x ∷ xs) = put_here k n xs

pub put_else : (k j n : ℕ) (xs : List ℕ) → j ≢ k → get_or (put_at k n xs) j 0 ≡ get_or xs j 0
put_else zero zero n xs apart = absurd (apart refl)
put_else zero (suc j) n [] apart = refl
put_else zero (suc j) n (x ∷ xs) apart = refl
put_else (suc k) zero n [] apart = refl
put_else (suc k) zero n (x ∷ xs) apart = refl
put_else (suc k) (suc j) n [] apart = put_else k j n [] (λ e. apart (ap suc e))
put_else (suc k) (suc j) n (x ∷ xs) apart = put_else k j n xs (λ e. apart (ap suc e))

module _ {W : ℕ} (s : State (Cell W) (View W)) (id : ℕ) (v : View W) (k : ℕ) (config : Config) (old new : ShardState) (kept : IsShown s)
    (few : suc k < length s.homes) (at : get_elem? s.views id ≡ some v) (asked : v.config ≡ Some config)
    (holds : v.held ≡ Some (suc k, Cell.Shard old)) (moves : ReleasesShard config v k old new) where
  found : (shard : ShardState) × (get_elem? kept.0.shards k ≡ some shard)
  found = one_of kept.0.shards k (let count = kept.1.count in omega arith)

  out : IsTaken (suc k) (Cell.Shard found.0) s
  out = elim (kept.1.places k found.0 found.1) [
    | inl h ↦ absurd (h.nobody id v (Cell.Shard old) at holds)
    | inr h ↦ h
  ]

  mine : id ≡ out.id
  mine = out.alone id v (Cell.Shard old) at holds

  abbrev held_shard : Option (ℕ × Cell W) → ShardState
  held_shard None = old
  held_shard (Some held) = shard_in held.1

  same_shard : found.0 ≡ old
  same_shard =
      let view : out.view ≡ v = some-injective out.view v (sym out.stands ∙ ap (get_elem? s.views) (sym mine) ∙ at) in
      ap held_shard (sym out.holds ∙ ap (λ (u : View W). u.held) view ∙ holds)

  abbrev after : View W
  after = left_shard k new v

  abbrev board : BoardState
  board = record { config = kept.0.config; journal = kept.0.journal; shards = set kept.0.shards k new }

  -- what holds of each other shard before, and of the new one, holds of each shard
  each_shard : (F : ℕ → ShardState → Type 0) → F k new
      → ((j : ℕ) (shard : ShardState) → j ≢ k → get_elem? kept.0.shards j ≡ some shard → F j shard)
      → (j : ℕ) (shard : ShardState) → get_elem? (set kept.0.shards k new) j ≡ some shard → F j shard
  each_shard F here others j shard e = all_set F kept.0.shards k new here others j shard e

  stands_still : IsBoardShard kept.0.config kept.0.journal k new
  stands_still =
      let same : config ≡ kept.0.config = (kept.1.desks id v at).config_is config asked in
      let back = sym same in
      let stood = subst (IsBoardShard kept.0.config kept.0.journal k) same_shard (kept.1.sound.shards k found.0 found.1) in
      subst (λ (c : Config). IsBoardShard c kept.0.journal k new) same
      (moves.stands kept.0.journal (subst (λ (c : Config). IsJournalOf W c kept.0.journal) back kept.1.sound.journal)
      (subst (λ (c : Config). IsViewOf c kept.0.journal v) back (kept.1.desks id v at))
      (subst (λ (c : Config). IsBoardShard c kept.0.journal k old) back stood))

  -- the version at a place only goes on
  still_left : (u : View W) → IsLeftBehind kept.0 u → IsLeftBehind board u
  still_left u left = each_shard (λ j shard. get_or u.left j 0 ≤ shard.current.at)
      (let was : get_or u.left k 0 ≤ found.0.current.at = left k found.0 found.1 in
      let same = ap (λ (shard : ShardState). shard.current.at) same_shard in let up = moves.rises in omega arith)
      (λ j shard _ e. left j shard e)

  mine_left : IsLeftBehind board after
  mine_left = each_shard (λ j shard. get_or (put_at k new.current.at v.left) j 0 ≤ shard.current.at)
      (let here = put_here k new.current.at v.left in omega arith)
      (λ j shard apart e. let there = put_else k j new.current.at v.left apart in let was = kept.1.left id v at j shard e in omega arith)

  abbrev homes : List (mathlib.Core.Option.Option (Cell W))
  homes = set s.homes (suc k) (some (Cell.Shard new))

  mine_knows : IsViewOf kept.0.config kept.0.journal after
  mine_knows =
      let desk = kept.1.desks id v at in
      record { seen = desk.seen; met = desk.met; number = desk.number; config_is = desk.config_is; fronts = desk.fronts }

  pub releases_shard : IsShown (record { words = set s.words (suc k) 0; homes = homes; views = set s.views id after })
  releases_shard = (
    board,
    record {
      journal = shows_same s id v after at 0 (Cell.Journal kept.0.journal) (set s.words (suc k) 0) homes
          (set_else s.words (suc k) 0 0 (λ z. omega arith)) (set_else s.homes (suc k) 0 (some (Cell.Shard new)) (λ z. omega arith))
          (λ c e. absurd (holds_none None 0 c refl e))
          (λ c e. absurd (let z = other_place (suc k) 0 (Cell.Shard old) c (sym holds ∙ e) in omega arith)) kept.1.journal;
      places = each_shard (λ j shard. ShowsCell (suc j) (Cell.Shard shard)
          (record { words = set s.words (suc k) 0; homes = homes; views = set s.views id after }))
          (inl (record {
            word = set_there s.words (suc k) 0 1 out.word;
            home = set_there s.homes (suc k) (some (Cell.Shard new)) none out.home;
            nobody = λ i u c e. all_set (λ i' u'. (c' : Cell W) → u'.held ≢ Some (suc k, c')) s.views id after (λ c' e'. holds_none None (suc k) c' refl e')
                (λ i' u' apart e' c' e''. apart (out.alone i' u' c' e' e'' ∙ sym mine)) i u e c;
          }))
          (λ j shard apart e. shows_same s id v after at (suc j) (Cell.Shard shard) (set s.words (suc k) 0) homes
          (set_else s.words (suc k) (suc j) 0 (λ z. apart (ap pred z))) (set_else s.homes (suc k) (suc j) (some (Cell.Shard new)) (λ z. apart (ap pred z)))
          (λ c e'. absurd (holds_none None (suc j) c refl e'))
          (λ c e'. absurd (apart (sym (ap pred (other_place (suc k) (suc j) (Cell.Shard old) c (sym holds ∙ e')))))) (kept.1.places j shard e));
      sound = record {
        journal = kept.1.sound.journal;
        shards = each_shard (λ j shard. IsBoardShard kept.0.config kept.0.journal j shard) stands_still (λ j shard _ e. kept.1.sound.shards j shard e);
      };
      count = length-set s.homes (suc k) (some (Cell.Shard new)) ∙ kept.1.count ∙ ap suc (sym (length-set kept.0.shards k new));
      left = all_set (λ _ u. IsLeftBehind board u) s.views id after mine_left (λ i u _ e. still_left u (kept.1.left i u e));
      desks = all_set (λ _ u. IsViewOf kept.0.config kept.0.journal u) s.views id after mine_knows (λ i u _ e. kept.1.desks i u e);
      differ = differ_set s id v after at kept.1.differ (λ n e. inl e);
    },
  )

-- ---- a seat that has taken a shard
module _ {W : ℕ} (before me : Me (Cell W) (View W)) (k : ℕ) (t : TakesShard (suc k) before me) where
  abbrev pub shard_holder : View W
  shard_holder = taking_shard t.config t.journal k t.shard before.0

  -- it knows what is so of the journal
  pub holder_knows : IsViewOf t.config t.journal shard_holder
  holder_knows = taken_shard_view t.config t.journal k t.shard before.0 t.knows

  abbrev first_cell : Cell W → List (ℕ × Cell W) → Cell W
  first_cell d [] = d
  first_cell d (x ∷ xs) = x.1

  module _ (place : ℕ) (is : place ≡ suc k) where
    -- what lies in the slot is what was taken
    pub lies_shard : (now : Cell W) (others : List (ℕ × Cell W)) → me.1 ≡ (place, now) ∷ others → now ≡ Cell.Shard t.shard
    lies_shard now others value = ap (first_cell now) (sym value ∙ ap (λ (m : Me (Cell W) (View W)). m.1) t.me_is)

    pub has_shard_slot : (old : Cell W) × (me.1 ≡ (place, old) ∷ rest me.1)
    has_shard_slot =
        let e = ap (λ (m : Me (Cell W) (View W)). m.1) t.me_is in (
          Cell.Shard t.shard,
          e ∙ ap (λ (q : ℕ). (q, Cell.Shard t.shard) ∷ []) (sym is)
              ∙ ap (λ (l : List (ℕ × Cell W)). (place, Cell.Shard t.shard) ∷ l) (sym (ap rest e)),
        )

    module _ (new : ShardState) (cell : Cell W) (lying : cell ≡ Cell.Shard new) (moves : ReleasesShard t.config shard_holder k t.shard new) where
      -- a store brings the shard home
      pub home_shard : (slots id : ℕ) → suc k < slots → Allows IsShown slots id (me.0, (place, cell) ∷ rest me.1) place (λ _. 0)
          (λ _ me'. me' ≡ (left_shard (pred place) (shard_in cell) me.0, []))
      home_shard slots id there =
          subst (λ (q : ℕ). Allows IsShown slots id (me.0, (q, cell) ∷ rest me.1) q (λ _. 0)
          (λ _ me'. me' ≡ (left_shard (pred q) (shard_in cell) me.0, []))) (sym is)
          (subst (λ (m : Me (Cell W) (View W)). Allows IsShown slots id (m.0, (suc k, cell) ∷ rest m.1) (suc k) (λ _. 0)
          (λ _ me'. me' ≡ (left_shard k (shard_in cell) m.0, []))) (sym t.me_is)
          (subst (λ z. Allows IsShown slots id (shard_holder, (suc k, z) ∷ []) (suc k) (λ _. 0)
          (λ _ me'. me' ≡ (left_shard k (shard_in z) shard_holder, []))) (sym lying)
          (λ s kept long at small. (
            left_shard k new shard_holder,
            gives,
            tt,
            releases_shard s id shard_holder k t.config t.shard new kept (subst (λ (n : ℕ). suc k < n) (sym long) there) at refl refl moves,
            refl,
          ))))

      -- the seat and the place after the release
      abbrev pub visited_shard : IsBoardShard t.config t.journal k new → (me' : Me (Cell W) (View W))
          → me' ≡ (left_shard (pred place) (shard_in cell) me.0, []) → VisitedShard k before me'
      visited_shard stands me' e = record {
        config = t.config;
        journal = t.journal;
        old = t.shard;
        new = new;
        sound = t.sound;
        stood = t.stands;
        stands = stands;
        knows = t.knows;
        left = t.left;
        never_back = moves.rises;
        me_is = e ∙ ap (λ (q : ℕ). (left_shard (pred q) (shard_in cell) me.0, [])) is ∙ ap (λ z. (left_shard k (shard_in z) me.0, [])) lying
            ∙ ap (λ (m : Me (Cell W) (View W)). (left_shard k new m.0, [])) t.me_is;
      }

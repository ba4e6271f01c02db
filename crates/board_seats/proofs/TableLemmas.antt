-- What a place shows stays where one view is written; and what that keeps of the rule.
use Rattle.std.proofs.Common.{◌≡◌, ◌≢◌, ℕ, zero, suc, ◌+◌, List, [], ◌∷◌, ◌++◌, ◌⊎◌, ⊎_elim, inl, inr, set, get_or, sym, refl, ap, ◌∙◌, subst, append_assoc, arith, Option, Some, None}
use mathlib.Core.Option.{some, none, some-injective, some-ne-none}
use mathlib.Core.Option as core
use mathlib.Core.Logic.{dite}
use mathlib.Core.List.{IsPrefix}
use native.Mathlib.Decide.{ℕ_discrete}
use lib.ListN.{get_elem?}
use Rattle.std.specs.Prelude.{slice_index}
use Rattle.std.specs.List.{AllByRecursion}
use Rattle.hamming_model.specs.History.{JournalEntry}
use Rattle.atomic_table.specs.Table.{State}
use Rattle.atomic_table.proofs.Lists.{at_set, set_else}
use Rattle.board_seats.specs.declared.rule.Cell.{Cell}
use Rattle.board_seats.specs.declared.rule.View.{View}
use Rattle.board_seats.specs.Views.{IsViewOf}
use Rattle.board_seats.specs.Rule.{BoardState, IsLeftBehind, ShowsBoard, ShowsCell}

-- ---- lists
pub prefix_trans : (xs ys zs : List JournalEntry) → IsPrefix xs ys → IsPrefix ys zs → IsPrefix xs zs
prefix_trans xs ys zs a b = (a.0 ++ b.0, sym (append_assoc xs a.0 b.0) ∙ ap (λ l. l ++ b.0) a.1 ∙ b.1)

pub all_join : (P : JournalEntry → Type 0) (xs ys : List JournalEntry) → AllByRecursion P xs → AllByRecursion P ys → AllByRecursion P (xs ++ ys)
all_join P [] ys front back = back
all_join P (x ∷ xs) ys front back = (front.0, all_join P xs ys front.1 back)

pub all_weaker : (P Q : JournalEntry → Type 0) (xs : List JournalEntry) → ((x : JournalEntry) → P x → Q x) → AllByRecursion P xs → AllByRecursion Q xs
all_weaker P Q [] weaker all = tt
all_weaker P Q (x ∷ xs) weaker all = (weaker x all.0, all_weaker P Q xs weaker all.1)

module _ {A : Type 0} where
  pub set_there : (l : List A) (i : ℕ) (a x : A) → get_elem? l i ≡ some x → get_elem? (set l i a) i ≡ some a
  set_there [] i a x e = absurd (some-ne-none x (sym e))
  set_there (y ∷ l) zero a x e = refl
  set_there (y ∷ l) (suc i) a x e = set_there l i a x e

  -- what holds of each holds still, after one is written
  pub all_set : (F : ℕ → A → Type 0) (views : List A) (id : ℕ) (w : A) → F id w
      → ((j : ℕ) (u : A) → j ≢ id → get_elem? views j ≡ some u → F j u) → (j : ℕ) (u : A) → get_elem? (set views id w) j ≡ some u → F j u
  all_set F views id w mine others j u e = ⊎_elim
      (λ x. subst (λ k. F k u) (sym x.0) (subst (λ v. F id v) x.1 mine)) (λ x. others j u x.0 x.1) (at_set views id j w u e)

pub same_words : (ws : List ℕ) (k j : ℕ) → get_elem? (set ws k (get_or ws k 0)) j ≡ get_elem? ws j
same_words [] k j = refl
same_words (x ∷ ws) zero zero = refl
same_words (x ∷ ws) zero (suc j) = refl
same_words (x ∷ ws) (suc k) zero = refl
same_words (x ∷ ws) (suc k) (suc j) = same_words ws k j

pub index_is : (ws : List ℕ) (k n : ℕ) → get_elem? ws k ≡ some n → slice_index ws k ≡ n
index_is [] k n e = absurd (some-ne-none n (sym e))
index_is (x ∷ ws) zero n e = some-injective x n e
index_is (x ∷ ws) (suc k) n e = index_is ws k n e

pub none_number : (n : ℕ) → ◌≡◌ {A = Option ℕ} None (Some n) → ⊥
none_number n e = cc

pub of_some : (m n : ℕ) → Some m ≡ Some n → m ≡ n
of_some m n e = cc

-- ---- what a view holds
module _ {W : ℕ} where
  abbrev place_of : ℕ → Option (ℕ × Cell W) → ℕ
  place_of d None = d
  place_of d (Some held) = held.0

  pub other_place : (k j : ℕ) (cell other : Cell W) → ◌≡◌ {A = Option (ℕ × Cell W)} (Some (k, cell)) (Some (j, other)) → k ≡ j
  other_place k j cell other e = ap (place_of 0) e

  pub holds_none : (held : Option (ℕ × Cell W)) (k : ℕ) (cell : Cell W) → held ≡ None → held ≡ Some (k, cell) → ⊥
  holds_none held k cell free e = let apart : k + 1 ≡ k = ap (place_of (k + 1)) (sym free ∙ e) in omega arith

-- ---- one view is written
module _ {W : ℕ} (s : State (Cell W) (View W)) (id : ℕ) (v w : View W) (at : get_elem? s.views id ≡ some v) where
  -- a place that the view holds as before, or as before doesn't hold, shows the same
  pub shows_same : (j : ℕ) (cell : Cell W) (ws : List ℕ) (hs : List (core.Option (Cell W)))
      → get_elem? ws j ≡ get_elem? s.words j → get_elem? hs j ≡ get_elem? s.homes j
      → ((c : Cell W) → w.held ≡ Some (j, c) → v.held ≡ Some (j, c)) → ((c : Cell W) → v.held ≡ Some (j, c) → w.held ≡ Some (j, c))
      → ShowsCell j cell s → ShowsCell j cell (record { words = ws; homes = hs; views = set s.views id w })
  shows_same j cell ws hs wj hj forth back shows = elim shows [
    | inl h ↦ inl (record {
      word = wj ∙ h.word;
      home = hj ∙ h.home;
      nobody = λ k u c e. all_set (λ _ u'. (c' : Cell W) → u'.held ≢ Some (j, c')) s.views id w
          (λ c' e'. h.nobody id v c' at (forth c' e')) (λ k' u' _ e' c'. h.nobody k' u' c' e') k u e c;
    })
    | inr h ↦ inr (dite (ℕ_discrete h.id id)
        (λ same.
        let mine : h.view ≡ v = some-injective h.view v (sym h.stands ∙ ap (get_elem? s.views) same ∙ at) in
        record {
          word = wj ∙ h.word;
          home = hj ∙ h.home;
          id = id;
          view = w;
          stands = set_there s.views id w v at;
          holds = back cell (ap (λ (u : View W). u.held) (sym mine) ∙ h.holds);
          alone = λ k u c e. all_set (λ k' u'. (c' : Cell W) → u'.held ≡ Some (j, c') → k' ≡ id) s.views id w
              (λ c' e'. refl) (λ k' u' _ e' c' e''. h.alone k' u' c' e' e'' ∙ same) k u e c;
        })
        (λ apart. record {
          word = wj ∙ h.word;
          home = hj ∙ h.home;
          id = h.id;
          view = h.view;
          stands = set_else s.views id h.id w apart ∙ h.stands;
          holds = h.holds;
          alone = λ k u c e. all_set (λ k' u'. (c' : Cell W) → u'.held ≡ Some (j, c') → k' ≡ h.id) s.views id w
              (λ c' e'. h.alone id v c' at (forth c' e')) (λ k' u' _ e' c' e''. h.alone k' u' c' e' e'') k u e c;
        }))
  ]

  abbrev Differ : List (View W) → Type 0
  Differ views = (i i' : ℕ) (u u' : View W) (n : ℕ) → get_elem? views i ≡ some u → get_elem? views i' ≡ some u'
      → u.number ≡ Some n → u'.number ≡ Some n → i ≡ i'

  -- numbers differ still
  pub differ_set : Differ s.views
      → ((n : ℕ) → w.number ≡ Some n → (v.number ≡ Some n) ⊎ ((i : ℕ) (u : View W) → get_elem? s.views i ≡ some u → u.number ≢ Some n))
      → Differ (set s.views id w)
  differ_set differ new i i' u u' n e e' is is' = ⊎_elim
      (λ x. ⊎_elim (λ x'. x.0 ∙ sym x'.0)
      (λ x'. ⊎_elim (λ old. x.0 ∙ differ id i' v u' n at x'.1 old is') (λ none_has. absurd (none_has i' u' x'.1 is'))
      (new n (ap (λ (z : View W). z.number) x.1 ∙ is)))
      (at_set s.views id i' w u' e'))
      (λ x. ⊎_elim
      (λ x'. ⊎_elim (λ old. differ i id u v n x.1 at is old ∙ sym x'.0) (λ none_has. absurd (none_has i u x.1 is))
      (new n (ap (λ (z : View W). z.number) x'.1 ∙ is')))
      (λ x'. differ i i' u u' n x.1 x'.1 is is')
      (at_set s.views id i' w u' e'))
      (at_set s.views id i w u e)

  -- the view alone changes, and not what it holds
  pub reviewed : (b : BoardState) (ws : List ℕ) → ShowsBoard b s → ((j : ℕ) → get_elem? ws j ≡ get_elem? s.words j) → w.held ≡ v.held
      → IsLeftBehind b w → IsViewOf b.config b.journal w → ((n : ℕ) → w.number ≡ Some n → v.number ≡ Some n)
      → ShowsBoard b (record { words = ws; homes = s.homes; views = set s.views id w })
  reviewed b ws shown same held left desk number = record {
    journal = shows_same 0 (Cell.Journal b.journal) ws s.homes (same 0) refl (λ c e. sym held ∙ e) (λ c e. held ∙ e) shown.journal;
    places = λ k shard there. shows_same (suc k) (Cell.Shard shard) ws s.homes (same (suc k)) refl (λ c e. sym held ∙ e) (λ c e. held ∙ e)
        (shown.places k shard there);
    sound = shown.sound;
    count = shown.count;
    left = all_set (λ _ u. IsLeftBehind b u) s.views id w left (λ k u _ e. shown.left k u e);
    desks = all_set (λ _ u. IsViewOf b.config b.journal u) s.views id w desk (λ k u _ e. shown.desks k u e);
    differ = differ_set shown.differ (λ n e. inl (number n e));
  }

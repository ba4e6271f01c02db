-- How a board begins.
use Rattle.std.proofs.Common.{◌≡◌, ◌≢◌, Bool, true, false, set, ◌⊎◌, ⊎_elim, inl, inr, ℕ, zero, suc, ◌+◌, ◌*◌, ◌<◌, ◌≤◌, List, [], ◌∷◌, ◌++◌, length, map, replicate, get_or, refl, sym, ap, subst, ◌∙◌, arith, Option, Some, None}
use mathlib.Core.Option.{some, some-injective, some-ne-none}
use lib.ListN.{get_elem?}
use Rattle.std.proofs.lemmas.Bool.{cases_eq}
use Rattle.std.proofs.lemmas.List.{get_or-set_other, length-map}
use Rattle.part_layout.specs.Laid.{IsLaid, Laid}
use Rattle.part_layout.specs.declared.config.Config.{Config}
use Rattle.hamming_model.specs.History.{JournalEntry}
use Rattle.shard_version.specs.Contents.{empty_of}
use Rattle.commit_journal.specs.Fronts.{positions_of}
use Rattle.commit_journal.specs.Journals.{IsJournal, JournalState}
use Rattle.versioned_shard.specs.Rule.{KeepsJournalRule, KeepsRule}
use Rattle.versioned_shard.specs.Shards.{ShardState, shard_with}
use Rattle.atomic_table.specs.Table.{opening}
use Rattle.session_desk.specs.Desks.{Pin, starting_layout}
use Rattle.session_desk.specs.Solos.{first_shard_of}
use Rattle.board_seats.specs.declared.rule.Cell.{Cell}
use Rattle.board_seats.specs.declared.rule.Opening.{Opening}
use Rattle.board_seats.specs.declared.rule.View.{View}
use Rattle.board_seats.specs.Rule.{IsBoardShard, IsShown}
use Rattle.board_seats.specs.Views.{IsViewOf, first_view}
use Rattle.board_seats.proofs.ClaimLemmas.{same_config}
use Rattle.board_seats.proofs.TableLemmas.{holds_none, of_some}
use Rattle.shared_board.specs.Boards.{AreLaid, AreOut, IsAskedFor, cells_of, first_shards, opened_journal, shard_cell}
use Rattle.shared_board.proofs.SharedLemmas.{replicate_length, replicate_more}

-- ---- lists
module _ {A : Type 0} where
  at_last : (l : List A) (x : A) (k : ℕ) (y : A) → get_elem? (l ++ x ∷ []) k ≡ some y → (get_elem? l k ≡ some y) ⊎ ((k ≡ length l) × (y ≡ x))
  at_last [] x zero y e = inr (refl, sym (some-injective x y e))
  at_last [] x (suc k) y e = absurd (some-ne-none y (sym e))
  at_last (z ∷ l) x zero y e = inl e
  at_last (z ∷ l) x (suc k) y e = ⊎_elim inl (λ last. inr (ap suc last.0, last.1)) (at_last l x k y e)

  at_below : (l : List A) (k : ℕ) (y : A) → get_elem? l k ≡ some y → k < length l
  at_below [] k y e = absurd (some-ne-none y (sym e))
  at_below (x ∷ l) zero y e = omega arith
  at_below (x ∷ l) (suc k) y e = let low = at_below l k y e in omega arith

same_at : (n k : ℕ) → k < n → get_elem? {A = ℕ} (replicate n 0) k ≡ some 0
same_at zero k low = absurd (omega arith)
same_at (suc n) zero low = refl
same_at (suc n) (suc k) low = same_at n k (omega arith)

shard_at : {W : ℕ} (shards : List ShardState) (k : ℕ) (shard : ShardState) → get_elem? shards k ≡ some shard
    → get_elem? (map some (map (shard_cell {W = W}) shards)) k ≡ some (some (Cell.Shard shard))
shard_at [] k shard e = absurd (some-ne-none shard (sym e))
shard_at {W} (first ∷ shards) zero shard e = ap (λ (each : ShardState). some (some (shard_cell {W = W} each))) (some-injective first shard e)
shard_at (first ∷ shards) (suc k) shard e = shard_at shards k shard e

map_more : {W : ℕ} (shards : List ShardState) (shard : ShardState)
    → map (shard_cell {W = W}) (shards ++ shard ∷ []) ≡ map shard_cell shards ++ shard_cell shard ∷ []
map_more [] shard = refl
map_more {W} (first ∷ shards) shard = ap (λ (l : List (Cell W)). shard_cell first ∷ l) (map_more shards shard)

-- ---- the first shards
length_first : (config : Config) (n : ℕ) → length (first_shards config n) ≡ n
length_first config zero = refl
length_first config (suc n) =
    Rattle.std.proofs.Common.length-append (first_shards config n) (first_shard_of config n ∷ []) ∙ (let long = length_first config n in omega arith)

first_at : (config : Config) (n k : ℕ) (shard : ShardState) → get_elem? (first_shards config n) k ≡ some shard → shard ≡ first_shard_of config k
first_at config zero k shard e = absurd (some-ne-none shard (sym e))
first_at config (suc n) k shard e = ⊎_elim (first_at config n k shard)
    (λ last. last.1 ∙ ap (first_shard_of config) (sym (last.0 ∙ length_first config n))) (at_last (first_shards config n) (first_shard_of config n) k shard e)

-- one shard more
pub laid_more : {W : ℕ} (opening : Opening) (n : ℕ) (words words' : List ℕ) (slots slots' : List (Cell W)) (pins pins' : List (Option Pin)) (shard : ShardState)
    → AreLaid opening n words slots pins → shard ≡ first_shard_of opening.config n → words' ≡ words ++ 0 ∷ [] → slots' ≡ slots ++ Cell.Shard shard ∷ []
    → pins' ≡ pins ++ None ∷ [] → AreLaid opening (n + 1) words' slots' pins'
laid_more {W} opening n words words' slots slots' pins pins' shard laid is more_words more_slots more_pins = record {
  words_are = more_words ∙ ap (λ (l : List ℕ). l ++ 0 ∷ []) laid.words_are ∙ ap (λ (l : List ℕ). 0 ∷ l) (replicate_more n 0);
  slots_are = more_slots ∙ ap (λ (l : List (Cell W)). l ++ Cell.Shard shard ∷ []) laid.slots_are
      ∙ ap (λ (s : ShardState). cells_of (opened_journal opening) (first_shards opening.config n) ++ Cell.Shard s ∷ []) is
      ∙ ap (λ (l : List (Cell W)). Cell.Journal (opened_journal opening) ∷ l) (sym (map_more (first_shards opening.config n) (first_shard_of opening.config n)))
      ∙ ap (λ (k : ℕ). cells_of (opened_journal opening) (first_shards opening.config k)) (let next : suc n ≡ n + 1 = omega arith in next);
  pins_are = more_pins ∙ ap (λ (l : List (Option Pin)). l ++ None ∷ []) laid.pins_are ∙ replicate_more n None;
}

abbrev Begins : Type 0
Begins = (live : ℕ → Option ℕ) (history : List JournalEntry) (shard shards : ℕ) (layout : Laid) → IsLaid layout
    → KeepsRule live history (shard_with (empty_of shard shards layout) [])

module _ {W : ℕ} (asked : Opening) (n : ℕ) (fits : IsAskedFor W asked.config) (laid : IsLaid (starting_layout asked.config))
    (sound : IsJournal (opened_journal asked)) (law : Begins) where
  abbrev config : Config
  config = asked.config

  abbrev journal : JournalState
  journal = opened_journal asked

  abbrev shards : List ShardState
  shards = first_shards config n

  abbrev starts : View W
  starts = first_view asked

  the_view : (id : ℕ) (view : View W) → get_elem? (starts ∷ []) id ≡ some view → (id ≡ 0) × (view ≡ starts)
  the_view zero view e = (refl, sym (some-injective starts view e))
  the_view (suc id) view e = absurd (some-ne-none view (sym e))

  knows : IsViewOf config journal starts
  knows = record {
    seen = record { more = []; longer = refl; others = λ session e. tt };
    met = ([], refl);
    number = λ session e. (let is = of_some asked.number session e in omega arith);
    config_is = λ other e. sym (same_config config other e);
    fronts = λ front has. absurd has;
  }

  stands : (k : ℕ) (shard : ShardState) → get_elem? shards k ≡ some shard → IsBoardShard config journal k shard
  stands k shard there =
      let is = first_at config n k shard there in
      record {
        rule = subst (KeepsJournalRule journal) (sym is) (law (positions_of journal.live) journal.history k config.shards (starting_layout config) laid);
        shard_is = ap (λ (s : ShardState). s.current.shard) is;
        shards_are = ap (λ (s : ShardState). s.current.shards) is;
        bits_are = ap (λ (s : ShardState). s.current.layout.bits) is;
      }

  begins : IsShown (opening (0 ∷ replicate n 0) (cells_of journal shards) starts)
  begins = (
    record { config = config; journal = journal; shards = shards },
    record {
      journal = inl (record {
        word = refl;
        home = refl;
        nobody = λ id view c e held. holds_none view.held 0 c (ap (λ (u : View W). u.held) (the_view id view e).1) held;
      });
      places = λ k shard there. inl (record {
        word = same_at n k (let low = at_below shards k shard there in let long = length_first config n in omega arith);
        home = shard_at shards k shard there;
        nobody = λ id view c e held. holds_none view.held (suc k) c (ap (λ (u : View W). u.held) (the_view id view e).1) held;
      });
      sound = record {
        journal = record {
          config_is = fits.config_is;
          few_words = fits.few_words;
          room = fits.room;
          sound = sound;
          drawn = tt;
          limit = refl;
          codes = tt;
        };
        shards = stands;
      };
      count = length-map (cells_of {W = W} journal shards) some ∙ ap suc (length-map shards (shard_cell {W = W}));
      left = λ id view e k shard there. subst (λ (u : View W). get_or u.left k 0 ≤ shard.current.at) (sym (the_view id view e).1) (omega arith);
      desks = λ id view e. subst (IsViewOf config journal) (sym (the_view id view e).1) knows;
      differ = λ id id' view view' session e e' is is'. (the_view id view e).0 ∙ sym (the_view id' view' e').0;
    },
  )

  pub laid_begins : (words : List ℕ) (slots : List (Cell W)) (pins : List (Option Pin)) → AreLaid asked n words slots pins
      → IsShown (opening words slots starts)
  laid_begins words slots pins are =
      subst (λ (ws : List ℕ). IsShown (opening ws slots starts)) (sym are.words_are)
      (subst (λ (xs : List (Cell W)). IsShown (opening (0 ∷ replicate n 0) xs starts)) (sym are.slots_are) begins)

-- so many words and cells are laid
pub laid_words : {W : ℕ} (opening : Opening) (n : ℕ) (words : List ℕ) (slots : List (Cell W)) (pins : List (Option Pin)) → AreLaid opening n words slots pins
    → length words ≡ suc n
laid_words opening n words slots pins are = ap length are.words_are ∙ ap suc (replicate_length n 0)

pub laid_slots : {W : ℕ} (opening : Opening) (n : ℕ) (words : List ℕ) (slots : List (Cell W)) (pins : List (Option Pin)) → AreLaid opening n words slots pins
    → length slots ≡ suc n
laid_slots {W} opening n words slots pins are =
    ap length are.slots_are ∙ ap suc (length-map (first_shards opening.config n) (shard_cell {W = W}) ∙ length_first opening.config n)

-- ---- cells that are taken out one after the other
gone_at : (filled : List Bool) (n : ℕ) → get_or (set filled n false) n false ≡ false
gone_at [] n = refl
gone_at (x ∷ filled) zero = refl
gone_at (x ∷ filled) (suc n) = gone_at filled n

pub out_first : (filled : List Bool) (count : ℕ) → ((k : ℕ) → k < count → get_or filled k false ≡ true) → AreOut (set filled 0 false) count 1
out_first filled count full = record {
  below = λ k low. subst (λ (n : ℕ). get_or (set filled 0 false) n false ≡ false) (let nought : 0 ≡ k = omega arith in nought) (gone_at filled 0);
  above = λ k high low. get_or-set_other filled 0 k false false (λ e. omega arith) ∙ full k low;
}

pub out_more : (filled : List Bool) (count n : ℕ) → AreOut filled count n → AreOut (set filled n false) count (n + 1)
out_more filled count n out = record {
  below = λ k low. elim (cases_eq k n) [
    | inl same ↦ subst (λ (m : ℕ). get_or (set filled n false) m false ≡ false) (sym same) (gone_at filled n)
    | inr apart ↦ get_or-set_other filled n k false false apart ∙ out.below k (omega arith)
  ];
  above = λ k high low. get_or-set_other filled n k false false (λ e. omega arith) ∙ out.above k (omega arith) low;
}
